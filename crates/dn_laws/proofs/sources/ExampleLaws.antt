-- Lemmas on the worked sources.
use Rattle.std.proofs.Common.{◌≡◌, ◌⊎◌, ◌≤◌, ℕ, List, [], ◌∷◌, ◌++◌, Some, codes, length, length-append, inl, inr, refl, ap, arith}
use Rattle.dn_line.specs.declared.code.Code.TheVariants.{BadLine}
use Rattle.dn_instance.specs.Readers.{ended}
use Rattle.dn_instance.specs.Texts.{FaultAt, IsClean}

-- a first line of a letter that begins no line has a fault
pub bad_line : (rest : List (List ℕ)) → FaultAt (codes "z" ∷ rest) 1 BadLine
bad_line rest = record {
  before = [];
  line = codes "z";
  after = rest;
  lines_are = refl;
  number_is = refl;
  fault_is = refl;
}

-- of these bytes, all but at most one have a complete line with a fault
pub some_fault : (given rest : List ℕ) → codes "z\n\n" ≡ given ++ rest → length rest ≤ 1 → IsClean (ended given) → ⊥
some_fault [] rest e few clean = omega (arith, few, ap length e)
some_fault (a ∷ []) rest e few clean = omega (arith, few, ap length e)
some_fault (a ∷ b ∷ []) rest e few clean =
    let first : a ≡ 122 = cc in
    let second : b ≡ 10 = cc in
    (rw (first, second) at clean) 1 BadLine (bad_line [])
some_fault (a ∷ b ∷ d ∷ []) rest e few clean =
    let first : a ≡ 122 = cc in
    let second : b ≡ 10 = cc in
    let third : d ≡ 10 = cc in
    (rw (first, second, third) at clean) 1 BadLine (bad_line ([] ∷ []))
some_fault (a ∷ b ∷ d ∷ f ∷ given) rest e few clean = omega (arith, ap length e, length-append given rest)

-- what is left at a state from which at most one pull leads to the end has at most one byte
pub few_left : (before rest : List ℕ) → Some before ≡ Some rest
    → ([] ≡ before) ⊎ ((byte : ℕ) × (before ≡ byte ∷ [])) → length rest ≤ 1
few_left before rest is (inl e) = let same : before ≡ rest = cc in omega (arith, ap length same, ap length e)
few_left before rest is (inr (byte, e)) = let same : before ≡ rest = cc in omega (arith, ap length same, ap length e)

-- the parts of a list of one line around a line of it
pub only_line : (l line : List ℕ) (earlier later : List (List ℕ)) → l ∷ [] ≡ earlier ++ line ∷ later
    → (earlier ≡ []) × (line ≡ l)
only_line l line [] later e = (refl, cc)
only_line l line (x ∷ earlier) later e =
    absurd (omega (arith, ap length e, length-append earlier (line ∷ later)))

-- Lemmas on finding the first fault of a text line by line.
use Rattle.std.proofs.Common.{◌≡◌, ℕ, ◌+◌, ◌<◌, List, [], ◌∷◌, ◌++◌, length, Bool, true, false, cond, ◌||◌, Option, Some, None, is_none, ◌⊎◌, inl, inr, refl, sym, ap, ◌∙◌, arith, append_assoc, append-nil, length-append, ℤ, option_and_then, option_map}
use Rattle.std.proofs.lemmas.Bool.{cases_eq}
use Rattle.dn_line.specs.declared.code.Code.{Code}
use Rattle.dn_line.specs.declared.kind.Kind.{Kind}
use Rattle.dn_line.specs.declared.kind.Kind.TheVariants as Kinds
use Rattle.dn_line.specs.declared.kind.Letter.TheVariants.{S, T}
use Rattle.dn_line.specs.declared.line.Line.{Line}
use Rattle.dn_line.specs.Words.{said_words}
use Rattle.dn_line.specs.Pieces.{lines}
use Rattle.dn_instance.specs.declared.refusal.Place.{Place}
use Rattle.dn_instance.specs.declared.refusal.Place.TheVariants as Places
use Rattle.dn_arc_theory.specs.declared.arc.CapArc.{CapArc}
use Rattle.dn_line.specs.declared.code.Code.TheVariants.{NoProblem, MissingTerminal}
use Rattle.dn_instance.specs.Instances.{Graph, Instance}
use Rattle.dn_instance.specs.Items.{Problem, problem_of, instance_of, instance_as, terminal_of, kind_known, max_flow, graph_of, cap_arc_in}
use Rattle.dn_instance.specs.TextFaults.{line_fault, end_fault, lacks_terminal}
use Rattle.dn_instance.specs.Texts.{items_of, FaultAt, IsClean, IsFirstFaultAt, IsFirstFault, Reads}

-- the first fault of the line that follows these lines
abbrev pub fault_after : List (List ℕ) → List ℕ → Option Code
fault_after before l = line_fault (length before + 1) (items_of before) (said_words l)

-- two splits of a list at the same position are the same
pub same_front : {X : Type 0} (a b : List X) (x y : X) (xs ys : List X) → a ++ x ∷ xs ≡ b ++ y ∷ ys
    → length a ≡ length b → (a ≡ b) × (x ≡ y)
same_front [] [] x y xs ys e h = let same : x ≡ y = cc in (refl, same)
same_front [] (d ∷ b) x y xs ys e h = cc
same_front (c ∷ a) [] x y xs ys e h = cc
same_front (c ∷ a) (d ∷ b) x y xs ys e h =
    let heads : c ≡ d = cc in
    let r = same_front a b x y xs ys (cc) (omega arith) in
    (rw (heads, r.0), r.1)

-- the fault at a line is that of this line after the lines before it
pub fault_there : (ls before after : List (List ℕ)) (l : List ℕ) (n : ℕ) (c : Code) → ls ≡ before ++ l ∷ after
    → n ≡ length before + 1 → FaultAt ls n c → fault_after before l ≡ Some c
fault_there ls before after l n c e m f =
    let r = same_front f.before before f.line l f.after after (sym f.lines_are ∙ e) (omega (arith, f.number_is)) in
    rw (← m, ← r.1, ← r.0) f.fault_is

pub none_from : {X : Type 0} (o : Option X) → ((x : X) → o ≡ Some x → ⊥) → o ≡ None
none_from None h = refl
none_from (Some x) h = absurd (h x refl)

-- a line of a text without a fault has no fault
pub clean_there : (ls before after : List (List ℕ)) (l : List ℕ) → ls ≡ before ++ l ∷ after → IsClean ls
    → fault_after before l ≡ None
clean_there ls before after l e clean =
    none_from (fault_after before l) (λ c h. clean (length before + 1) c
    (record { before = before; line = l; after = after; lines_are = e; number_is = refl; fault_is = h }))

-- the first k lines have no fault
abbrev NoneUpTo : List (List ℕ) → ℕ → Type 0
NoneUpTo ls k = (n : ℕ) (c : Code) → FaultAt ls n c → k < n

one_more : (before : List (List ℕ)) (l : List ℕ) (after : List (List ℕ))
    → before ++ l ∷ after ≡ (before ++ l ∷ []) ++ after
one_more before l after = sym (append_assoc before (l ∷ []) after)

-- if the first k lines and the next line have no fault, the first k + 1 lines have no fault
later : (ls before after : List (List ℕ)) (l : List ℕ) → ls ≡ before ++ l ∷ after → NoneUpTo ls (length before)
    → fault_after before l ≡ None → NoneUpTo ls (length (before ++ l ∷ []))
later ls before after l e none h n c f = elim (cases_eq n (length before + 1)) [
  | inl m ↦ cc (sym h ∙ fault_there ls before after l n c e m f)
  | inr m ↦ omega (arith, none n c f, length-append before (l ∷ []))
]

abbrev or_later : Option Code → ℕ → Option (ℕ × Code) → Option (ℕ × Code)
or_later None n found = found
or_later (Some c) n found = Some (n, c)

-- the first fault of the lines that follow these lines, and the number of its line
abbrev pub found_in : List (List ℕ) → List (List ℕ) → Option (ℕ × Code)
found_in before [] = None
found_in before (l ∷ rest) = or_later (fault_after before l) (length before + 1) (found_in (before ++ l ∷ []) rest)

-- no line has a fault, or this is the first fault
abbrev Found : List (List ℕ) → Option (ℕ × Code) → Type 0
Found ls None = IsClean ls
Found ls (Some f) = IsFirstFaultAt ls f.0 f.1

found_here : (ls before after : List (List ℕ)) (l : List ℕ) (f : Option Code) (found : Option (ℕ × Code))
    → ls ≡ before ++ l ∷ after → NoneUpTo ls (length before) → fault_after before l ≡ f
    → (fault_after before l ≡ None → Found ls found) → Found ls (or_later f (length before + 1) found)
found_here ls before after l None found e none h go = go h
found_here ls before after l (Some c) found e none h go =
    record {
      at = record { before = before; line = l; after = after; lines_are = e; number_is = refl; fault_is = h };
      first = λ n d g. omega (arith, none n d g);
    }

found_from : (ls before rest : List (List ℕ)) → ls ≡ before ++ rest → NoneUpTo ls (length before)
    → Found ls (found_in before rest)
found_from ls before [] e none = λ n c f. omega (
  arith,
  none n c f,
  f.number_is,
  ap length e,
  ap length (append-nil before),
  ap length f.lines_are,
  length-append f.before (f.line ∷ f.after),
)
found_from ls before (l ∷ rest) e none =
    found_here ls before rest l (fault_after before l) (found_in (before ++ l ∷ []) rest) e none refl
    (λ h. found_from ls (before ++ l ∷ []) rest (e ∙ one_more before l rest) (later ls before rest l e none h))

found_is : (ls : List (List ℕ)) → Found ls (found_in [] ls)
found_is ls = found_from ls [] ls refl (λ n c f. omega (arith, f.number_is))

-- the fault that is found line by line is the first fault
pub first_is : (ls : List (List ℕ)) (n : ℕ) (c : Code) → found_in [] ls ≡ Some (n, c) → IsFirstFaultAt ls n c
first_is ls n c h = rw h at (found_is ls)

-- if no fault is found, no line has a fault
pub clean_is : (ls : List (List ℕ)) → found_in [] ls ≡ None → IsClean ls
clean_is ls h = rw h at (found_is ls)

-- what holds of no lines, and also with each next line without a fault, holds of lines without a fault
clean_from : (P : List (List ℕ) → Type 0) (ls before rest : List (List ℕ)) → ls ≡ before ++ rest → IsClean ls
    → ((b : List (List ℕ)) (l : List ℕ) → fault_after b l ≡ None → P b → P (b ++ l ∷ [])) → P before → P ls
clean_from P ls before [] e clean step here = rw (e, append-nil before) here
clean_from P ls before (l ∷ rest) e clean step here =
    clean_from P ls (before ++ l ∷ []) rest (e ∙ one_more before l rest) clean step
    (step before l (clean_there ls before rest l e clean) here)

pub by_clean_lines : (P : List (List ℕ) → Type 0) (ls : List (List ℕ)) → IsClean ls
    → ((b : List (List ℕ)) (l : List ℕ) → fault_after b l ≡ None → P b → P (b ++ l ∷ [])) → P [] → P ls
by_clean_lines P ls clean step none = clean_from P ls [] ls refl clean step none

same_number : (ls : List (List ℕ)) (m n : ℕ) (c d : Code) → IsFirstFaultAt ls m c → IsFirstFaultAt ls n d → m ≡ n
same_number ls m n c d f g = omega (arith, f.first n d g.at, g.first m c f.at)

pub same_place : (t : List ℕ) (p q : Place) (c d : Code) → IsFirstFault t p c → IsFirstFault t q d → p ≡ q
same_place t (Places.Line m) (Places.Line n) c d f g = ap (λ k. Places.Line k) (same_number (lines t) m n c d f g)
same_place t (Places.Line m) Places.End c d f g = absurd (g.clean m c f.at)
same_place t Places.End (Places.Line n) c d f g = absurd (f.clean n d g.at)
same_place t Places.End Places.End c d f g = refl

-- lines have only one first fault
same_fault : (ls : List (List ℕ)) (m n : ℕ) (c d : Code) → IsFirstFaultAt ls m c → IsFirstFaultAt ls n d → c ≡ d
same_fault ls m n c d f g =
    let a = f.at in
    let at = fault_there ls a.before a.after a.line in
    cc (at m c a.lines_are a.number_is a, at n d a.lines_are (sym (same_number ls m n c d f g) ∙ a.number_is) g.at)

pub same_code : (t : List ℕ) (p q : Place) (c d : Code) → IsFirstFault t p c → IsFirstFault t q d → c ≡ d
same_code t (Places.Line m) (Places.Line n) c d f g = same_fault (lines t) m n c d f g
same_code t (Places.Line m) Places.End c d f g = absurd (g.clean m c f.at)
same_code t Places.End (Places.Line n) c d f g = absurd (f.clean n d g.at)
same_code t Places.End Places.End c d f g = cc (f.fault_is, g.fault_is)

later_lines : (before ls ms : List (List ℕ)) (x : ℕ × Code) → found_in before ls ≡ Some x
    → found_in before (ls ++ ms) ≡ Some x
later_lines before [] ms x h = cc
later_lines before (l ∷ ls) ms x h = at_first (fault_after before l) _ _ _ (later_lines (before ++ l ∷ []) ls ms x) h
  where
    at_first : (f : Option Code) (n : ℕ) (a b : Option (ℕ × Code)) → (a ≡ Some x → b ≡ Some x) → or_later f n a ≡ Some x
        → or_later f n b ≡ Some x
    at_first None n a b go g = go g
    at_first (Some c) n a b go g = g

-- later lines do not change the first fault
pub first_on : (ls ms : List (List ℕ)) (n : ℕ) (c : Code) → IsFirstFaultAt ls n c → IsFirstFaultAt (ls ++ ms) n c
first_on ls ms n c f = by_found (found_in [] ls) refl
  where
    by_found : (x : Option (ℕ × Code)) → found_in [] ls ≡ x → IsFirstFaultAt (ls ++ ms) n c
    by_found None e = absurd (clean_is ls e n c f.at)
    by_found (Some x) e =
        let g = first_is ls x.0 x.1 e in
        rw (same_number ls n x.0 c x.1 f g, same_fault ls n x.0 c x.1 f g)
        (first_is (ls ++ ms) x.0 x.1 (later_lines [] ls ms x e))

pub not_both : (t : List ℕ) (I : Instance) (p : Place) (c : Code) → Reads t I → IsFirstFault t p c → ⊥
not_both t I (Places.Line n) c r f = r.clean n c f.at
not_both t I Places.End c r f = cc (sym r.whole ∙ f.fault_is)

-- if no fault is found, the first test does not apply
pub none_first : {X : Type 0} (b : Bool) (x : X) (rest : Option X) → cond b (Some x) rest ≡ None → (b ≡ false)
    × (rest ≡ None)
none_first true x rest h = cc
none_first false x rest h = (refl, h)

with_terminals : (a b : Option ℤ) (G : Graph CapArc) → (is_none a || is_none b) ≡ false → (I : Instance)
    × (max_flow a b G ≡ Some I)
with_terminals (Some a) (Some b) G h = (_, refl)
with_terminals _ _ G h = cc

of_kind : (k : Kind) (nodes : ℤ) (items : List Line) → lacks_terminal (Some k) items ≡ false → (I : Instance)
    × (instance_as k nodes items ≡ Some I)
of_kind Kinds.Max nodes items h =
    with_terminals (terminal_of S items) (terminal_of T items) (graph_of cap_arc_in nodes items) h
of_kind _ nodes items h = (_, refl)

of_problem : (o : Option Problem) (items : List Line) → is_none o ≡ false
    → lacks_terminal (option_map (λ (p : Problem). p.kind) o) items ≡ false
    → (I : Instance) × (option_and_then (λ (p : Problem). instance_as p.kind p.nodes items) o ≡ Some I)
of_problem None items h g = cc
of_problem (Some p) items h g = of_kind p.kind p.nodes items g

-- items without a fault at the end make an instance
made : (items : List Line) → end_fault items ≡ None → (I : Instance) × (instance_of items ≡ Some I)
made items h =
    let one = none_first (is_none (problem_of items)) NoProblem _ h in
    let two = none_first (lacks_terminal (kind_known items) items) MissingTerminal _ one.1 in
    of_problem (problem_of items) items one.0 two.0

abbrev Either : List ℕ → Type 0
Either t = ((I : Instance) × Reads t I) ⊎ ((p : Place) × (c : Code) × IsFirstFault t p c)

at_end : (t : List ℕ) (f : Option Code) → IsClean (lines t) → end_fault (items_of (lines t)) ≡ f → Either t
at_end t None clean h =
    let m = made (items_of (lines t)) h in inl (m.0, record { clean = clean; whole = h; instance_is = m.1 })
at_end t (Some c) clean h = inr (Places.End, c, record { clean = clean; fault_is = h })

by_found : (t : List ℕ) (f : Option (ℕ × Code)) → Found (lines t) f → Either t
by_found t None clean = at_end t (end_fault (items_of (lines t))) clean refl
by_found t (Some f) first = inr (Places.Line f.0, f.1, first)

pub either : (t : List ℕ) → Either t
either t = by_found t (found_in [] (lines t)) (found_is (lines t))

use Rattle.std.proofs.Common.{◌≤◌, ℕ, pos, [], ◌∷◌, codes, inl, inr, refl, arith}
use Rattle.dn_line.specs.declared.code.Code.TheVariants.{BadLine}
use Rattle.dn_line.specs.declared.line.Line.TheVariants.{SpArc}
use Rattle.dn_instance.specs.Readers.{WantsMemory}
use Rattle.dn_instance.proofs.FirstFaults.{clean_is}
use Rattle.dn_laws.proofs.sources.ExampleLaws.{bad_line, only_line}
use Rattle.dn_laws.proofs.sources.examples.memory.Goals as goal

-- the arc of the second line
at_arc : (before : ℕ) → before ≤ 1 → WantsMemory before (codes "p sp 2 1" ∷ codes "a 1 2 3" ∷ [])
at_arc before past = record {
  earlier = codes "p sp 2 1" ∷ [];
  line = codes "a 1 2 3";
  later = [];
  whole = refl;
  past = past;
  item = record { item = SpArc (pos 1) (pos 2) (pos 3); spelled = refl; needs = inl (omega arith) };
  clean = clean_is _ refl;
}

pub returns : goal.returns
returns c = record {
  arc = at_arc 0 (omega arith);
  last_line = inr (refl, at_arc 1 (omega arith));
  comment = λ w.
      let (none, is) = only_line (codes "c only") w.line w.earlier w.later w.whole in
      cc ((rw (none, is) at w.item).spelled);
  fault = λ w.
      let (none, is) = only_line (codes "z") w.line w.earlier w.later w.whole in
      (rw (none, is) at w.clean) 1 BadLine (bad_line []);
}

-- The machine values of a seal and of the parts of a box, at a pointer.
use mathlib.Core.Path.{◌≡◌, refl, subst}
use mathlib.Core.List.{[]}
use mathlib.Core.Bool.{Bool, not}
use lib.Dec.{T, lit<}
use mir.Syntax.{impl, tnil, dnil}
use mir.Val.{Val, vstruct, vcons, vnil, has_ty, WT}
use denote.RawPtr.{Ptr, block_ptr, null_ptr, ptr_val}
use Rattle.std.specs.Prelude.{Option, Some, None, IsSome}
use Rattle.std.proofs.alloc.Calls.{α, Fits}
use Rattle.std_alloc.proofs.BoxSteps.Form.{Bx, box_ty, box_typed}
use Rattle.std_alloc.proofs.ResultValues.{and_tt}
use Rattle.std_heap.specs.contracts.Global as Heap
use Rattle.std_heap.specs.contracts.GlobalAllocator.TheImpl.{ghosts, dict}
use Rattle.std_heap.proofs.Global.TheLaws as heap
use Rattle.dn_c.specs.contracts.work.Work as Work
use Rattle.dn_c.proofs.work.Work.TheLaws as work
use Rattle.dn_c.proofs.seal.Seal.TheLaws as seal

-- a box of a work
abbrev pub E : Bx
E = record {
  row = Work.the_row;
  laws = work.the_row_laws;
  al = record
      { row = Heap.the_row; laws = heap.the_row_laws; g = ghosts; d = dict; drops = impl [] tnil dnil };
}

-- an option that is not `None` has a value
pub some_of : {A : Type 0} (o : Option A) → IsSome o → (x : A) × (o ≡ Some x)
some_of (Some x) full = (x, refl)
some_of None full = absurd (subst (λ (b : Bool). T (not b)) full tt)

abbrev pub seal_at : Ptr → Val
seal_at p = vstruct (vcons (ptr_val p) vnil)

pub seal_typed : (p : Ptr) → T (has_ty seal.mir (seal_at p)) × WT (seal_at p)
seal_typed (block_ptr b o) = (tt, (tt, tt))
seal_typed null_ptr = (tt, (record { fits = lit< tt }, tt))

abbrev pub parts_at : Val → Ptr → Val
parts_at hv p = vstruct (vcons (ptr_val p) (vcons hv vnil))

pub parts_typed : (hv : Val) (p : Ptr) → Fits E.al hv → T (has_ty (box_ty E) (parts_at hv p)) × WT (parts_at hv p)
parts_typed hv (block_ptr b o) fits = box_typed E hv b o fits
parts_typed hv null_ptr fits = (and_tt (has_ty (α E.al) hv) fits.0, (record { fits = lit< tt }, (fits.1, tt)))

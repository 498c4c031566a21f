-- The names that walks cite.
pub use Rattle.std.proofs.Common.{◌≡◌, ℕ, List, [], ◌∷◌, ◌++◌, refl, Bor, w8}
pub use Rattle.std.proofs.raw_atomic.Walks.{proved, proved_at}
pub use base.Logic.{id⊢, ent, sep, fst∗, never, emp, SProp}
pub use base.Fml.{ftrue, fsep, flft, Lft, Share, fhide}
pub use mir.Syntax.{named, Body, place, copy, assign, rv_opd, seq, return, Args, a_type, dcons, dnil}
pub use mir.Val.{Val, vptr, vint, has_ty, WT, vstruct, of_list}
pub use contract.Monad.{fact, Fun}
pub use contract.Running.{tables}
pub use prog.Wp.{WpFn}
pub use types.Logic.{sem, Logic}
pub use types.Kit.{‵, raw, ◌⊛◌, some, later, prop, ◌$◌, ◌∵◌, !, qed, done, move, keep, drop, use1, split, join, fsplit, fjoin, feq_i, feq_l, pick, await, regoal, suffices, frame, at_ret, by, Item, split3, rewrite, fpick, fpack, given, learn}
pub use types.Run.{enter, of_opd, addr, stop, no_more, and_then, returns, fld, hop, from, look, first, blocks, exec}
pub use types.ByLocal.{alloc_all, pass_all, free_all, look_at, get, through, sets, lands_as, get_in, look_in_at, env, lands_last}
pub use denote.Exit.{yes, no}
pub use denote.Laws.{shows, Is}
pub use denote.Opens.{hide, shr_dup, unhide}
pub use denote.RawPtr.{Ptr, RawPtr, block_ptr, in_a_block, rawptr_vals, rawptr_Tells, null_ptr, block_of, count_of, InBlock, ptr_row_laws, ptr_val, rawptr_Lawful}
pub use denote.Ref.{shr_vals, mut_vals, mut_Tells, ShrRef, shr_Tells}
pub use denote.Signature.{plain, type_at}
pub use denote.Steps.{nothing, heard, peeks, only}
pub use denote.Struct.Lending.{lent_at, in_block_says, lent_out}
pub use denote.Triple.Call.{calls_at, calls_at_last}
pub use denote.Triple.Clauses.{lasts, Ended, Clauses}
pub use denote.Triple.Entry.{on_entry}
pub use denote.Triple.Spec.{triple_of}
pub use denote.Triple.Walked.{Stays, walk_of, says, stay_dropped, Goes-dropped, ends_at, stay_none_ref, Goes-none_ref}
pub use denote.Triple.Table.{framed, entered}
pub use denote.Memory.{shared_of, hidden_shr}
pub use denote.Slice.{mut_slice_vals, mut_slice_Tells, shr_slice_vals, shr_slice_Tells}
pub use types.Part.{agg, sub, whole}
pub use Rattle.std.specs.Prelude.{Option, Some, None, IsSome}
pub use denote.Plain.{uint_vals, uint_Tells}
pub use mathlib.Core.Path.{subst, sym, ap, ◌∙◌}
pub use Prim.Native.Nat.{◌+◌}
pub use seplogic.Ra.Ura.{Ura}
pub use denote.RattleType.{RattleType, Valss}
pub use denote.Struct.Struct.{Struct, Struct-row_laws, within}
pub use denote.Struct.Owning.{shape, to}
pub use Rattle.std_alloc.proofs.Words.{pointer_in, pointer_out}
pub use lib.Dec.{T}
pub use mir.MapTy.{inst_fn}
pub use contract.BorrowLft.{◌⊑◌}
pub use Rattle.std.proofs.alloc.Calls.{token, Goes-blank, handle_tells}
pub use Rattle.std_alloc.specs.Box.Ownership.{box_owns}
pub use Rattle.std_alloc.proofs.BoxSteps.Form.{Bx, D, R, P, B, args, box_ty, word, box_typed, τ, owning}
pub use Rattle.std_alloc.proofs.BoxSteps.Steps.{box_out, box_in}
pub use denote.Param.{bounded}
pub use denote.Struct.Tuple.{Tuple}

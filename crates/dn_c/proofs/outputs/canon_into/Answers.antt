use Rattle.std.proofs.Common.{◌≡◌, ℕ, false, Option, None, Some, Ok, Err, inl, inr, refl, sym, subst, ◌∙◌}
use Rattle.std.specs.Option.{is_some}
use Rattle.std.specs.Global.{Global, Vec}
use Rattle.dn_instance.specs.State.Helds.{Parsed}
use Rattle.dn_instance.specs.declared.refusal.Refusal.TheVariants as Refusals
use Rattle.dn_c.specs.declared.status.Status.{Status}
use Rattle.dn_c.specs.declared.work.Work.{Work}
use Rattle.dn_c.specs.declared.work.Work.TheVariants as Works
use Rattle.dn_c.specs.State.Works.{work_of, Stores}
use Rattle.dn_c.specs.State.Outputs.{form_numbered, HasText, PrintsHeld}
use Rattle.dn_c.proofs.outputs.canon_into.Goals as goal

none_of : (o : Option Work) → is_some o ≡ false → o ≡ None
none_of (Some was) h = cc h
none_of None h = refl

-- a new text in a handle that held nothing
into : (held : Parsed) (alloc : Global) (form : ℕ) (new : Option Work) (s : Status) (text : Vec ℕ)
    → HasText held (form_numbered form) (Ok text) → Stores (Works.Text text) None new s
    → PrintsHeld (Some (Works.Read held alloc)) form None new s
into held alloc form new s text has (inl f) = inl (text, f.1, f.0, has)
into held alloc form new s text has (inr f) =
    inr (f.1, (Refusals.Memory, f.0, λ I valid h. let t = has I valid h in (t.0, t.1.canon, t.2)))

pub returns-in-Ok : goal.returns-in-Ok
returns-in-Ok c =
    let it = c.in-Read in let none = none_of _ (sym c.is_full.ensures ∙ c.if-is_full.false) in
    rw (← c.in-Some.ensures, it.is, none)
    (into it.held it.alloc c.args.form (work_of c.store.new.handle) c.store.result c.in-Ok.text
    (subst (λ f. HasText it.held f (Ok c.in-Ok.text)) c.form_numbered.ensures c.in-Ok.ensures)
    (rw none at c.store.ensures))

pub returns-in-Err : goal.returns-in-Err
returns-in-Err c =
    let it = c.in-Read in
    rw (← c.in-Some.ensures, it.is, none_of _ (sym c.is_full.ensures ∙ c.if-is_full.false)) (inr (
      refl,
      (
        c.in-Err.refusal,
        c.refused_with.ensures,
        subst (λ f. HasText it.held f (Err c.in-Err.refusal)) c.form_numbered.ensures c.in-Err.ensures,
      ),
    ))

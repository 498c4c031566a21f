-- Lemmas that the program's options are simple, so that `clap`'s definitions say what it reads.
use Rattle.std.proofs.Common.{◌≡◌, ◌∙◌, ◌||◌, List, Result, Ok, Err, IfOk, IsErrAnd, refl, inl, subst, false, true, map, ap, ap₂}
use Rattle.std.specs.Borrow.{Bor}
use Rattle.std.specs.declared.alloc.AllocError.{AllocError}
use Rattle.clap.specs.Words.{AddsArg, App, FailsBy, HasMatchesOf, Rule, Text, app_of, fault_of}
use Rattle.clap.specs.Words.{is_simple_and_free, kind_of, rule_of, subcommand_of, with_rule}
use Rattle.clap.specs.declared.builder.arg.Arg.{Arg}
use Rattle.clap.specs.declared.builder.command.Command.{Command}
use Rattle.clap.specs.declared.builder.command.Command.TheViews.{out-Command as fields_of}
use Rattle.clap.specs.declared.error.kind.ErrorKind.TheVariants.{OutOfMemory}
use Rattle.clap.specs.Simple.{is_simple}
use Rattle.clap.specs.declared.error.Error.{Error}
use Rattle.clap.specs.declared.parser.matches.ArgMatches.{ArgMatches}
use Rattle.dn_command.specs.Options.{dnorm_app, form_option_words}
use Rattle.dn_command.specs.State.Parses.{IsParseOf}

free : (forms : Bor (List (Bor Text))) → is_simple_and_free (dnorm_app forms) ≡ true
free forms = refl

simple : (forms : Bor (List (Bor Text))) → is_simple (dnorm_app forms) ≡ true
simple forms = refl

-- adding an argument to a command adds its rule, if the command and the argument are known
pub adds_arg : (old : Command) (arg : Arg) (r : Result Command AllocError) {before : App} {rule : Rule}
    → app_of old ≡ before → (fields_of old).has_globals ≡ false → rule_of arg ≡ rule → arg.global ≡ false
    → IfOk r (AddsArg old arg)
    → IfOk r (λ c. app_of c ≡ with_rule before rule) × IfOk r (λ c. (fields_of c).has_globals ≡ false)
adds_arg old arg (Ok c) is local ruled own adds =
    (adds.shape own ∙ ap₂ with_rule is ruled, adds.globals ∙ ap₂ (λ a b. a || b) local own)
adds_arg old arg (Err e) is local ruled own adds = (tt, tt)

-- the result of `clap` is the parse of the words with the program's options
pub is_parse : (a : App) (forms : Bor (List (Bor Text))) (words : List Text) (r : Result ArgMatches Error)
    → a ≡ dnorm_app forms → map (λ s. s.now) forms.now ≡ form_option_words
    → (is_simple_and_free a ≡ true → FailsBy (fault_of a words) r)
    → IfOk r (HasMatchesOf a words) → IsParseOf words r
is_parse a forms words (Ok m) is are_forms fails matches = record {
  forms = forms;
  are_forms = are_forms;
  fails = subst (λ b. FailsBy (fault_of b words) (Ok m)) is (fails (ap is_simple_and_free is ∙ free forms));
  matches = (matches (ap is_simple is ∙ simple forms)).1 ∙ ap (λ b. subcommand_of b words) is;
}
is_parse a forms words (Err e) is are_forms fails matches = record {
  forms = forms;
  are_forms = are_forms;
  fails =
      subst (λ b. FailsBy {T = ArgMatches} (fault_of b words) (Err e)) is
      (fails (ap is_simple_and_free is ∙ free forms));
  matches = tt;
}

-- if memory runs out for the options, the error is a parse of the words
pub no_parse : (forms : Bor (List (Bor Text))) (words : List Text) (r : Result ArgMatches Error)
    → map (λ s. s.now) forms.now ≡ form_option_words → IsErrAnd r (λ e. kind_of e ≡ OutOfMemory) → IsParseOf words r
no_parse forms words (Ok m) are_forms memory = elim memory [ ]
no_parse forms words (Err e) are_forms memory = record {
  forms = forms;
  are_forms = are_forms;
  fails = inl memory;
  matches = tt;
}

-- The result of reading a line of words with `clap`, in terms of its definitions (this project's profile).
use Rattle.std.specs.Prelude.{◌≡◌, List, map, Result, IfOk}
use Rattle.std.specs.Borrow.{Bor}
use Rattle.clap.specs.Words.{FailsBy, Text, fault_of, subcommand_of, subcommand_rows_of}
use Rattle.clap.specs.declared.error.Error.{Error}
use Rattle.clap.specs.declared.parser.matches.ArgMatches.{ArgMatches}
use Rattle.dn_command.specs.Options.{dnorm_app, form_option_words}

-- what `clap` returns for a line of words: an error only for a fault that its definitions find in the words, and
-- otherwise the subcommand that they find
pub record IsParseOf (words : List Text) (result : Result ArgMatches Error) : Type 0 where
  pub forms : Bor (List (Bor Text))
  pub are_forms : map (λ s. s.now) forms.now ≡ form_option_words
  pub fails : FailsBy (fault_of (dnorm_app forms) words) result
  pub matches : IfOk result (λ m. subcommand_rows_of m ≡ subcommand_of (dnorm_app forms) words)

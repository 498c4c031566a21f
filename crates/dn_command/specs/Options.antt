-- The options that `clap` reads command lines with, in terms of `clap`'s definitions (this project's profile).
use Rattle.std.specs.Prelude.{List, ◌∷◌, [], Some, true, codes}
use Rattle.std.specs.Borrow.{Bor}
use Rattle.clap.specs.Words.{App, Rule, Text, new_app, new_rule, with_rule, with_subcommand}
use Rattle.clap.specs.declared.builder.action.ArgAction.TheVariants.{Set}
use Rattle.clap.specs.declared.builder.value_parser.ValueParser.TheVariants.{Names}

-- a required word with this name
abbrev pub text_rule : Text → Rule
text_rule name = record (new_rule name) { required = true; action = Some Set }

-- an option with this name that takes one value
abbrev pub option_rule : Text → Rule
option_rule name = record (new_rule name) { long = Some name; action = Some Set; value_names = 1 }

-- `--with COMPANION`
abbrev pub with_option : Rule
with_option = option_rule (codes "with")

-- `--form FORM`, where FORM is one of these words, and `1` by default
abbrev pub form_option : Bor (List (Bor Text)) → Rule
form_option forms = record (option_rule (codes "form")) { parser = Some (Names forms); defaults = codes "1" ∷ [] }

-- `show FILE`
abbrev pub show_app : App
show_app = with_rule (new_app (codes "show")) (text_rule (codes "FILE"))

-- `check FILE [--with COMPANION]`
abbrev pub check_app : App
check_app = with_rule (with_rule (new_app (codes "check")) (text_rule (codes "FILE"))) with_option

-- `canon [--form FORM] FILE`
abbrev pub canon_app : Bor (List (Bor Text)) → App
canon_app forms = with_rule (with_rule (new_app (codes "canon")) (text_rule (codes "FILE"))) (form_option forms)

-- `compare LEFT RIGHT`
abbrev pub compare_app : App
compare_app = with_rule (with_rule (new_app (codes "compare")) (text_rule (codes "LEFT"))) (text_rule (codes "RIGHT"))

-- the program without its commands: it has a version, and requires a subcommand
abbrev pub bare_app : App
bare_app = record (new_app (codes "dnorm")) {
  top = record (new_app (codes "dnorm")).top { has_version = true; subcommand_required = true };
}

-- the program with its four commands, where FORM is one of these words
abbrev pub dnorm_app : Bor (List (Bor Text)) → App
dnorm_app forms = with_subcommand (with_subcommand (with_subcommand (with_subcommand bare_app
    show_app.top) check_app.top) (canon_app forms).top) compare_app.top

-- the words that may follow `--form`
abbrev pub form_option_words : List Text
form_option_words = codes "1" ∷ codes "2" ∷ []

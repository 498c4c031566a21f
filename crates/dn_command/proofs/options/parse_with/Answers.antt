use Rattle.std.proofs.Common.{Err}
use Rattle.dn_command.proofs.OptionLaws.{is_parse, no_parse}
use Rattle.dn_command.proofs.options.parse_with.Goals as goal

pub returns-in-Err : goal.returns-in-Err
returns-in-Err c = no_parse c.args.forms _ (Err c.from.result) c.requires c.from.ensures

pub returns-in-Ok : goal.returns-in-Ok
returns-in-Ok c = is_parse _ c.args.forms _ c.try_get_matches_from.result c.in-Ok.ensures.app c.requires
    c.try_get_matches_from.ensures.kinds c.try_get_matches_from.ensures.matches

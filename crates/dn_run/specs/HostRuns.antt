-- A run of the program on the host (this project's profile).
use Rattle.std.specs.Prelude.{◌≡◌, ◌≢◌, ℕ, List, codes}
use Rattle.std.specs.IoError.{error_kind}
use Rattle.std.specs.declared.io.Error.{Error}
use Rattle.std.specs.declared.io.ErrorKind.TheVariants.{InvalidData}
use Rattle.dn_instance.specs.declared.refusal.Refusal.TheVariants.{Memory}
use Rattle.dn_report.specs.FaultLines.{fault_line}
use Rattle.dn_run.specs.Streams.{SinkRun, TakesLine}
use Rattle.dn_run.specs.Words.{bad_command_line}

-- the program did not run: the status is this number, `out` is unchanged, and `err` took this line
pub record NotRun {S E : Type 0} (out : SinkRun S) (err : SinkRun E) (line : List ℕ) (number status : ℕ)
    : Type 0 where
  pub status_is : status ≡ number
  pub out_stays : out.new ≡ out.old
  pub tells : TakesLine err line

-- the arguments could not be collected: if one is not UTF-8, they are a bad command line, with status 3; otherwise
-- memory ran out, with status 4
pub record NoWords {S E : Type 0} (out : SinkRun S) (err : SinkRun E) (error : Error) (status : ℕ) : Type 0 where
  pub text : error_kind error ≡ InvalidData → NotRun out err bad_command_line 3 status
  pub memory : error_kind error ≢ InvalidData → NotRun out err (fault_line (codes "dnorm") Memory) 4 status

-- The order in which faults are checked.
use Rattle.std.specs.Prelude.{ℕ}
use Rattle.dn_line.specs.declared.code.Code.{Code}
use Rattle.dn_line.specs.declared.code.Code.TheVariants.{TooLong, BadLine, EarlyLine, SecondProblem, UnknownProblem, WrongLine, LateNode, TooManyLines, FieldCount, NotANumber, OutOfRange, Negative, BadTerminal, NodeOutOfRange, RepeatedNode, SameTerminal, LowAboveCap, SumTooLarge, NoProblem, MissingTerminal, TooFewLines}

-- the rank of a fault: of two faults, the one with the lower rank is checked first
abbrev pub code_rank : Code → ℕ
code_rank TooLong = 0
code_rank BadLine = 10
code_rank EarlyLine = 20
code_rank SecondProblem = 30
code_rank UnknownProblem = 40
code_rank WrongLine = 50
code_rank LateNode = 60
code_rank TooManyLines = 70
code_rank FieldCount = 80
code_rank NotANumber = 90
code_rank OutOfRange = 100
code_rank Negative = 110
code_rank BadTerminal = 120
code_rank NodeOutOfRange = 130
code_rank RepeatedNode = 140
code_rank SameTerminal = 150
code_rank LowAboveCap = 160
code_rank SumTooLarge = 170
code_rank NoProblem = 180
code_rank MissingTerminal = 190
code_rank TooFewLines = 200

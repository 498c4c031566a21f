-- Which texts a command does not accept.
use Rattle.std.specs.Prelude.{ℕ, List, Option, Some, None, IfSome}
use Rattle.dn_command.specs.Commands.{Asked, Show, Check, Canon, Compare}
use Rattle.dn_instance.specs.Instances.{Instance}
use Rattle.dn_instance.specs.Texts.{Reads}
use Rattle.dn_instance.specs.declared.companion.CompanionFault.{CompanionFault}
use Rattle.dn_canon.specs.CanonTexts.{IsTooLarge}
use Rattle.dn_run.specs.Findings.{Unfits}

-- the command does not accept its text, or its two texts together, if the bytes behind all names are known: one reads
-- as no instance, the canonical text that is asked for is too large, or the companion does not fit
abbrev pub NotAccepted : (List ℕ → Option (List ℕ)) → Asked → Type 0
NotAccepted behind (Show name) = IfSome (behind name) (λ b. (I : Instance) → Reads b I → ⊥)
NotAccepted behind (Check name None) = IfSome (behind name) (λ b. (I : Instance) → Reads b I → ⊥)
NotAccepted behind (Check name (Some companion)) =
    IfSome (behind name) (λ b. IfSome (behind companion)
    (λ c. (I J : Instance) → Reads b I → Reads c J → (fault : CompanionFault) × Unfits I J fault))
NotAccepted behind (Canon name form) =
    IfSome (behind name) (λ b. (I : Instance) → Reads b I → IsTooLarge form I)
NotAccepted behind (Compare left right) =
    IfSome (behind left) (λ b. IfSome (behind right)
    (λ c. (I J : Instance) → Reads b I → Reads c J → ⊥))

-- Which lines of a text are complete, and at which line memory may run out (this project's profile).
use Rattle.std.specs.Prelude.{◌≡◌, ◌⊎◌, ℕ, ◌<◌, ◌≤◌, List, [], ◌∷◌, ◌++◌, length}
use Rattle.dn_line.specs.declared.line.Line.{Line}
use Rattle.dn_line.specs.declared.line.Line.TheVariants as Item
use Rattle.dn_line.specs.declared.word.Word.{Word}
use Rattle.dn_line.specs.Pieces.{parts, is_line_feed}
use Rattle.dn_line.specs.Words.{said_words}
use Rattle.dn_arc_theory.specs.Entries.{SpreadsForced}
use Rattle.dn_arc_theory.specs.Pairs.{bundle}
use Rattle.dn_instance.specs.Items.{arcs_of, cost_arc_in}
use Rattle.dn_instance.specs.EntryCount.{entries_so_far}
use Rattle.dn_instance.specs.Texts.{items_of, with_next, IsClean}

-- the complete lines of a text are those that an LF ends
abbrev pub ended : List ℕ → List (List ℕ)
ended t = (parts is_line_feed t).0

-- an item that needs memory even if it makes no entry: a `min` node line, or an arc that spreads the forced units of
-- its pair
abbrev pub NeedsBesides : List Line → Line → Type 0
NeedsBesides before (Item.Supply id flow) = Unit {0}
NeedsBesides before (Item.MinArc src dst low cap cost) =
    SpreadsForced (bundle (src, dst) (arcs_of cost_arc_in before)) (record { low = low; cap = cap; cost = cost })
NeedsBesides before _ = ⊥

-- one more item after these needs memory: they make more entries with it, or it needs memory even if they do not
abbrev pub NeedsMemory : List Line → Line → Type 0
NeedsMemory before i = (entries_so_far before < entries_so_far (before ++ i ∷ [])) ⊎ NeedsBesides before i

-- after these items, a line with these words spells an item that needs memory
pub record SpellsNeed (before : List Line) (ws : List Word) : Type 0 where
  pub item : Line
  pub spelled : with_next before ws ≡ before ++ item ∷ []
  pub needs : NeedsMemory before item

-- memory ran out at one of these lines: at least `before` lines precede it, it spells an item that needs memory, and
-- neither it nor an earlier line has a fault
pub record WantsMemory (before : ℕ) (ls : List (List ℕ)) : Type 0 where
  pub earlier : List (List ℕ)
  pub line : List ℕ
  pub later : List (List ℕ)
  pub whole : ls ≡ earlier ++ line ∷ later
  pub past : before ≤ length earlier
  pub item : SpellsNeed (items_of earlier) (said_words line)
  pub clean : IsClean (earlier ++ line ∷ [])

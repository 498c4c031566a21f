-- What an instance is, in numbers, or what its text declares.
use Rattle.std.specs.Prelude.{◌≡◌, ℕ, pos, length, Option, Some, None}
use Rattle.dn_line.specs.declared.kind.Kind.{Kind}
use Rattle.dn_line.specs.declared.kind.Kind.TheVariants as Kinds
use Rattle.dn_instance.specs.State.Helds.{Parsed, contents_kind, pair_count}
use Rattle.dn_instance.specs.State.ReaderStates.{DeclaresBefore, DeclaresRead}
use Rattle.dn_instance.specs.declared.declared.Declared.{Declared}
use Rattle.dn_c.specs.State.Items.{listed_items}
use Rattle.dn_c.specs.declared.facts.Facts.{Facts}
use Rattle.dn_c.specs.declared.work.Work.{Work}
use Rattle.dn_c.specs.declared.work.Work.TheVariants as Works

-- the number of a kind
abbrev pub kind_number : Kind → ℕ
kind_number Kinds.Min = 1
kind_number Kinds.Max = 2
kind_number Kinds.Sp = 3
kind_number Kinds.Ss = 4
kind_number Kinds.P2p = 5
kind_number Kinds.Co = 6

-- the facts of no instance
abbrev pub no_facts : Facts
no_facts = record { kind = 0; nodes = pos 0; lines = pos 0; pairs = 0; items = 0 }

-- what a parsed instance is
abbrev pub parsed_facts : Parsed → Facts
parsed_facts h =
    record {
      kind = kind_number (contents_kind h.contents);
      nodes = h.nodes;
      lines = h.lines;
      pairs = pair_count h.contents;
      items = length (listed_items h.contents);
    }

-- what a problem line declares
abbrev pub declared_facts : Option Declared → Facts
declared_facts None = no_facts
declared_facts (Some d) = record { kind = kind_number d.kind; nodes = d.nodes; lines = d.lines; pairs = 0; items = 0 }

-- what the instance is, or what the problem line declares that a reader has read; any other work is nothing of this
abbrev pub IsFacts : Option Work → Facts → Type 0
IsFacts (Some (Works.Read held _)) facts = facts ≡ parsed_facts held
IsFacts (Some (Works.Reading r)) facts =
    (d : Option Declared) × DeclaresRead r d × DeclaresBefore r d × (facts ≡ declared_facts d)
IsFacts _ facts = facts ≡ no_facts

-- Lemmas that the printed text of a valid instance reads as this instance, and is the text of no other.
use Rattle.std.proofs.Common.{◌≡◌, ◌-◌, ◌<◌, ◌^◌, List, [], ◌∷◌, length, map, Some, sym, ap, ◌∙◌, arith}
use Rattle.std.proofs.lemmas.List.{length-map}
use Rattle.std.specs.List.{AllByRecursion}
use Rattle.dn_line.specs.Pieces.{lines}
use Rattle.dn_line.specs.LineTable.{kind_named}
use Rattle.dn_line.specs.Words.{said}
use Rattle.dn_instance.specs.Instances.{Instance, kind_of, nodes_of, size_of}
use Rattle.dn_instance.specs.Validity.{IsValid}
use Rattle.dn_instance.specs.Texts.{Reads}
use Rattle.dn_canon.specs.Prints.{print}
use Rattle.dn_sink.specs.Rows.{Cells, text_of}
use Rattle.dn_canon.proofs.RowLaws.{line_of, AllWords, lines_are, rows_one}
use Rattle.dn_canon.proofs.ItemLaws.{AllFollow, items_under, body_items, items_are, rows_clean}
use Rattle.dn_canon.proofs.InstanceItems.{head_row, head_item, body_rows, body_of, rows_are, body_words, head_is, nodes_in, nodes_back, body_makes, items_make}
use Rattle.dn_canon.proofs.FollowLaws.{head_follows, body_follows, end_clean, count_rows}

-- the words of all lines of an instance
abbrev all_rows : Instance → List Cells
all_rows I = head_row I ∷ body_rows I

-- each line consists of words
all_words : (I : Instance) → AllByRecursion AllWords (all_rows I)
all_words I = ((head_is I).words, body_words I)

-- the lines of a printed text are the lines of its rows
print_lines : (I : Instance) → lines (print I) ≡ map line_of (all_rows I)
print_lines I = ap (λ rs. lines (text_of rs)) (rows_are I) ∙ lines_are (all_rows I) (all_words I)

-- a printed text with few enough lines reads as the instance that it prints
pub print_reads : (I : Instance) → IsValid I → length (lines (print I)) < 2 ^ 63 - 1 → Reads (print I) I
print_reads I v few =
    let short : length (map line_of (all_rows I)) < 2 ^ 63 - 1 = rw (print_lines I) at few in
    let count : size_of I < 2 ^ 63 = omega (arith, length-map (all_rows I) line_of, count_rows I) in
    let follow : AllFollow [] (all_rows I) (head_item I ∷ body_of I) = (head_follows I v count, body_follows I v) in
    let items = items_are (all_rows I) (head_item I ∷ body_of I) (all_words I) follow in
    record {
      clean = rw (print_lines I) (rows_clean (all_rows I) (head_item I ∷ body_of I) (all_words I) follow short);
      whole = rw (print_lines I, items) (end_clean I);
      instance_is = rw (print_lines I, items) (items_make I v);
    }

-- the items of the lines after the problem line are those of the instance
body_back : (I : Instance) → IsValid I → items_under (Some (kind_of I)) (map line_of (body_rows I)) ≡ body_of I
body_back I v = body_items (head_is I) [] (body_rows I) (body_of I) (body_words I) (body_follows I v)

-- valid instances with the same printed text are equal
pub print_one : (I J : Instance) → IsValid I → IsValid J → print I ≡ print J → I ≡ J
print_one I J v w e =
    let same : all_rows I ≡ all_rows J =
    rows_one (all_rows I) (all_rows J) (all_words I) (all_words J) (rw (rows_are I, rows_are J) at e) in
    let heads : head_row I ≡ head_row J = cc in
    let bodies : body_rows I ≡ body_rows J = cc in
    let named : Some (kind_of I) ≡ Some (kind_of J) =
    sym (head_is I).kind ∙ ap (λ r. kind_named (map said r)) heads ∙ (head_is J).kind in
    let kinds : kind_of I ≡ kind_of J = cc in
    let nodes : nodes_of I ≡ nodes_of J = sym (nodes_back I v) ∙ ap nodes_in heads ∙ nodes_back J w in
    let items : body_of I ≡ body_of J = sym (body_back I v) ∙ rw (kinds, bodies) (body_back J w) in
    let made : Some I ≡ Some J = sym (body_makes I v) ∙ rw (kinds, nodes, items) (body_makes J w) in
    cc

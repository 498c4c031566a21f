-- What `check` prints for accepted texts (this project's profile).
use Rattle.std.specs.Prelude.{List, [], ◌∷◌, ◌++◌, codes, Bool, true, false, Option, Some, None}
use Rattle.dn_line.specs.Names.{kind_name}
use Rattle.dn_line.specs.declared.kind.Kind.{Kind}
use Rattle.dn_sink.specs.Rows.{Cells}
use Rattle.dn_report.specs.declared.check.Forms.{Forms}

-- `fits K` if there is a companion, where K is its kind; otherwise nothing
abbrev pub fits_rows : Option Kind → List Cells
fits_rows None = []
fits_rows (Some kind) = (codes "fits" ∷ kind_name kind ∷ []) ∷ []

-- the numbers of the forms in which a text is canonical, or `none`
abbrev pub form_words : Bool → Bool → Cells
form_words true true = codes "1" ∷ codes "2" ∷ []
form_words true false = codes "1" ∷ []
form_words false true = codes "2" ∷ []
form_words false false = codes "none" ∷ []

-- `accepted K`, where K is the kind of the text, then the line of the companion, and then `forms` and the forms
abbrev pub checked_rows : Kind → Option Kind → Forms → List Cells
checked_rows kind companion forms =
    (codes "accepted" ∷ kind_name kind ∷ [])
    ∷ (fits_rows companion ++ (codes "forms" ∷ form_words forms.one forms.two) ∷ [])

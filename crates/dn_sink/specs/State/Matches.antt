-- The state of a sink that compares its bytes with a text.
use Rattle.std.specs.Prelude.{◌≡◌, ◌≢◌, ◌<◌, ◌≤◌, ◌+◌, ℕ, List, [], ◌∷◌, ◌++◌, length, take, Bool, false, Option, None, Some, IfSome}

-- the text that the bytes put are compared with, those bytes, and whether the sink has failed
pub record Matched : Type 0 where
  pub text : List ℕ
  pub put : List ℕ
  pub failed : Bool

-- what such a sink has taken: the length of the text, the text, and then the bytes put. So the bytes taken determine
-- the text, and no call changes it
abbrev pub taken_of : Matched → List ℕ
taken_of m = length m.text ∷ (m.text ++ m.put)

-- the bytes put: a prefix of the text, and then the first byte that does not match, if there is one
abbrev pub put_by : List ℕ → ℕ → Option ℕ → List ℕ
put_by text matched None = take matched text
put_by text matched (Some other) = take matched text ++ other ∷ []

-- these bytes are not a prefix of the text
abbrev pub IsNoPrefix : List ℕ → List ℕ → Type 0
IsNoPrefix bytes text = (rest : List ℕ) → bytes ++ rest ≢ text

-- this many bytes of the text are matched, and the other byte, if there is one, does not match the text there. Without
-- such a byte the sink has not failed
pub record AreMatched (text : List ℕ) (matched : ℕ) (other : Option ℕ) (failed : Bool) : Type 0 where
  pub within : matched ≤ length text
  pub fine : other ≡ None → failed ≡ false
  pub apart : IfSome other (λ byte. IsNoPrefix (take matched text ++ byte ∷ []) text)

-- the text and the piece begin with the same n bytes: the whole piece, or all before its first byte that does not match
pub record IsSamePrefix (text piece : List ℕ) (n : ℕ) : Type 0 where
  pub in_text : n ≤ length text
  pub in_piece : n ≤ length piece
  pub same : take n text ≡ take n piece
  pub apart : n < length piece → IsNoPrefix (take (n + 1) piece) text

-- Lemmas on what a reader read to the front of a buffer.
use Rattle.std.proofs.Common.{ℕ, ◌<◌, List, ◌++◌, length, Option, Result, Ok, Err}
use Rattle.std.proofs.lemmas.List.{take-append-le}
use Rattle.std.specs.Io.{ReadsAtMost}
use Rattle.std.specs.Io.KnownBytes.{ReadConsumes}

-- the bytes after those that a read had room for do not matter
pub reads_front : {E : Type 0} (old new : Option (List ℕ)) (front rest : List ℕ) (r : Result ℕ E) → ReadsAtMost r front
    → 0 < length front → ReadConsumes old new r front → ReadConsumes old new r (front ++ rest)
reads_front old new front rest (Ok n) bound some (bytes, end) =
    (rw (take-append-le n front rest bound.0) bytes, λ none more. end none some)
reads_front old new front rest (Err e) bound some h = h

-- The tiles of a content, and its text: the bytes that they give in its reading.
use Rattle.std.specs.Prelude.{ℕ, List, Option}
use Rattle.string.specs.declared.tile.Piece.{Piece}
use Rattle.string.specs.declared.content.Content.{Content}
use Rattle.string.specs.Tiles.{tiles_of, bytes_of}

abbrev pub tiles_in : Content → List (Option Piece)
tiles_in c = tiles_of c.sign c.inner.now

abbrev pub text_in : Content → List ℕ
text_in c = bytes_of c.reading (tiles_in c)

-- What the values of the code mean, by the grammar's definitions.
use Rattle.std.specs.Prelude.{true, false, List, [], map, Some, None, vec_items, string_bytes, String}
use Rattle.std.proofs.Math.Option.{Option, some, none}
use Rattle.std.specs.declared.alloc.Global.{Global}
use Rattle.std.specs.declared.option.Option as std
use Rattle.program.specs.Instructions.{instruction}
use Rattle.text.specs.declared as code
use Rattle.text.specs.declared.pieces.Piece.{Piece}
use Rattle.text.specs.declared.places.Places.TheVariants.{Numerals, Words}
use Rattle.text.specs.Bytes.{Word}
use Rattle.text.specs.Grammar.{Places, Column, Page, Listing}

abbrev pub option : {A : Type 0} → std.Option A → Option A
option None = none
option (Some x) = some x

abbrev pub words : List (String Global) → List Word
words ss = map string_bytes ss

-- the bytes of a piece of text, as of a token
abbrev pub token : Piece → Word
token p = p.text.now

abbrev pub named : code.places.Words.Words → Places
named w = record { numerals = false; words = words (vec_items w.all) }

abbrev pub places : code.places.Places.Places → Places
places Numerals = record { numerals = true; words = [] }
places (Words w) = named w

abbrev pub column : code.source.Thread.Thread → Column
column t = record { name = string_bytes t.name; code = map instruction (vec_items t.code) }

abbrev pub page : code.pages.Page.Page → Page
page p = record { columns = map column (vec_items p.threads); places = places p.places }

abbrev pub listing : code.source.Source.Source → Listing
listing s = record { columns = map column (vec_items s.threads); places = words (vec_items s.places) }

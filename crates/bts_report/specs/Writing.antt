-- What goes to a sink line by line, and what is held back until there is enough to be written at once.
use Rattle.std.specs.Prelude.{◌≡◌, ◌++◌, Option}
use Rattle.std.specs.Io.KnownBytes.{Appends}
use Rattle.bts_names.specs.Names.{Bytes}

-- a front of the text went to the sink, and the rest is held back
pub record IsHeldBack (before after : Option Bytes) (rest text : Bytes) : Type 0 where
  pub front : Bytes
  pub written : Appends before after front
  pub whole : text ≡ front ++ rest

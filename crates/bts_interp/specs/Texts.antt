-- The text that each frame of a unit follows.
use Rattle.std.specs.Prelude.{List, [], ◌∷◌, Option, Some, None, codes}
use Rattle.std.specs.Option.{unwrap_or}
use Rattle.bts_names.specs.Names.{Name, ActivityPath}
use Rattle.bts_names.specs.Named.{lookup}
use Rattle.bts_command.specs.declared.command.Command.TheVariants as command
use Rattle.bts_forms.specs.declared.statement.Statement.TheVariants as statement
use Rattle.bts_unit.specs.Frames.{OpenFrame}
use Rattle.bts_interp.specs.Steps.{Script}

abbrev pub Programs : Type 0
Programs = List (Name × Script)

-- the programs of a session, and the block of the request that a unit is, or no line where it is none
pub record Texts : Type 0 where
  pub programs : Programs
  pub block : Script

-- a program that the session lacks is this one statement
abbrev pub no_program : Script
no_program = statement.Command (command.Abend (codes "NOPG")) ∷ []

abbrev pub program_of : Programs → Option Name → Script
program_of programs None = no_program
program_of programs (Some name) = unwrap_or (lookup name programs) no_program

-- what a frame follows: a request's first one the block, and an activity's the program that it had when the frame opened
abbrev pub script_in : Texts → Option ActivityPath → Option Name → Script
script_in texts None program = texts.block
script_in texts (Some p) program = program_of texts.programs program

abbrev pub frame_script : Texts → OpenFrame → Script
frame_script texts f = script_in texts f.at f.program

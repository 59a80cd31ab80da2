use Rattle.std.proofs.Common.{refl}
use Rattle.bts_command.specs.declared.command.Command.TheVariants as command_
use Rattle.bts_codec.specs.Formats.{reads, optional, ◌&◌}
use Rattle.bts_codec.specs.Fields.{name, flag}
use Rattle.bts_codec.specs.Commands.{target, command_readers}
use Rattle.bts_codec.proofs.Chosen.{chosen_is, unknown_command, Avoids}
use Rattle.bts_codec.proofs.commands.read_command.Goals as goal

pub returns-in-7 : goal.returns-in-7
unfolding command_readers
returns-in-7 c =
    rw (chosen_is command_readers c.args.bytes.now c.byte.new.self 7 (reads (target & flag & optional name) (λ x. command_.Run x.0 x.1.0 x.1.1)) (rw (← c.in-7.is) c.in_ok-byte.ensures) refl) c.read_run.ensures

pub returns-in-8 : goal.returns-in-8
unfolding command_readers
returns-in-8 c =
    rw (chosen_is command_readers c.args.bytes.now c.byte.new.self 8 (reads (target & optional name) (λ x. command_.Link x.0 x.1)) (rw (← c.in-8.is) c.in_ok-byte.ensures) refl) c.read_link.ensures

pub returns-in_default : goal.returns-in_default
returns-in_default c =
    let none : Avoids 31 c.in_ok-byte.field-0 = search in
    unknown_command c.args.bytes.now c.byte.new.self c.in_ok-byte.field-0 c.in_ok-byte.ensures none

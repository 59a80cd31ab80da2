use Rattle.std.proofs.Common.{refl}
use Rattle.bts_names.specs.declared.reply.Value.TheVariants as value_
use Rattle.bts_codec.specs.Formats.{reads, ◌&◌}
use Rattle.bts_codec.specs.Fields.{mode, status, flag}
use Rattle.bts_codec.specs.Replies.{code_or_none, value_readers}
use Rattle.bts_codec.proofs.Chosen.{chosen_is}
use Rattle.bts_codec.proofs.replies.read_value.Goals as goal

pub returns-in-5 : goal.returns-in-5
returns-in-5 c =
    rw (chosen_is value_readers c.args.bytes.now c.byte.new.self 5 (reads (mode & status & flag & code_or_none) (λ x. value_.Activity x.0 x.1.0 x.1.1.0 x.1.1.1)) (rw (← c.in-5.is) c.in_ok-byte.ensures) refl) c.read_activity.ensures

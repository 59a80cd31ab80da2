use Rattle.std.proofs.Common.{◌≡◌, ◌∷◌, ◌++◌, [], rules}
use Rattle.bts_disk.specs.Memory.{content_behind}
use Rattle.bts_disk.specs.declared.device_call.DeviceCall.TheVariants.{Write}
use Rattle.bts_disk.proofs.Picks.{after_more}
use Rattle.bts_disk.proofs.recording.Recording.write.Goals as goal

pub invariant_of-self-2 : goal.invariant_of-self-2
invariant_of-self-2 c =
    let s = c.self.inside in
    let x = Write c.args.done c.args.at c.args.bytes.now in
    let more : c.push_reserved.new.self.items ≡ s.calls.items ++ x ∷ [] = search rules in
    let now : c.change.new.content.items ≡ content_behind s.content.items x = search rules in
    after_more _ _ _ _ _ _ x c.change.ensures.first more now c.self.invariant

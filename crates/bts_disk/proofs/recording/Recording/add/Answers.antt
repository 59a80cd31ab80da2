use Rattle.std.proofs.Common.{◌≡◌, List, ◌∷◌, ◌++◌, [], rules, sym, ap, ◌∙◌}
use Rattle.bts_disk.specs.Memory.{content_after, first_of}
use Rattle.bts_disk.specs.declared.device_call.DeviceCall.{DeviceCall}
use Rattle.bts_disk.proofs.Picks.{quiet_last}
use Rattle.bts_disk.proofs.recording.Recording.add.Goals as goal

pub invariant_of-self-2 : goal.invariant_of-self-2
invariant_of-self-2 c =
    let s = c.self.inside in
    let first = first_of s.first s.content.items in
    let more : c.push.new.self.items ≡ s.calls.items ++ c.args.call ∷ [] = search rules in
    c.self.invariant ∙ sym (quiet_last first s.calls.items c.args.call c.requires) ∙ ap (λ (xs : List DeviceCall). content_after first xs) (sym more)

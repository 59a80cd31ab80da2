use Rattle.std.proofs.Common.{◌≡◌, true, false, sym, ap, subst, ◌∙◌}
use Rattle.bts_tree.proofs.Awake.{all_kept, awake_at, kept_but_for, one_less}
use Rattle.bts_tree.proofs.Seen.{seen_forgotten, seen_kept}
use Rattle.bts_tree.proofs.repository.Repository.forget_idle.Goals as goal
use Rattle.bts_tree.specs.Indexes.{forgotten, has_key, is_awake, is_still_kept}
use Rattle.bts_tree.specs.Keeping.{all_of}

pub invariant_of-self : goal.invariant_of-self
invariant_of-self c =
    let f = c.self.inside.format in
    let key = c.args.key.now in
    let es = c.self.inside.map.entries in
    let idle : is_awake key (all_of f es) ≡ false = awake_at f key es c.len.ensures.ordered ∙ sym c.has_work.ensures ∙ c.if-not-has_work.true in
    one_less f c.self.inside.awake.keys es c.self.invariant key c.remove.new.self.keys c.remove.ensures.updates.0 idle

pub returns-then-not-has_work-clause-done : goal.returns-then-not-has_work-clause-done
returns-then-not-has_work-clause-done c =
    let f = c.self.inside.format in
    let key = c.args.key.now in
    let es = c.self.inside.map.entries in
    let idle : is_awake key (all_of f es) ≡ false = awake_at f key es c.len.ensures.ordered ∙ sym c.has_work.ensures ∙ c.if-not-has_work.true in
    seen_forgotten f key c.self.inside.awake.keys es c.remove.new.self.keys idle c.remove.ensures.keys ∙ ap (forgotten key) c.self.view_is

pub returns-then-not-has_work-clause-keys : goal.returns-then-not-has_work-clause-keys
returns-then-not-has_work-clause-keys c = λ k.
    let f = c.self.inside.format in
    let key = c.args.key.now in
    let es = c.self.inside.map.entries in
    let idle : is_awake key (all_of f es) ≡ false = awake_at f key es c.len.ensures.ordered ∙ sym c.has_work.ensures ∙ c.if-not-has_work.true in
    subst (λ r. has_key k c.remove.new.self.keys ≡ is_still_kept key r k) c.self.view_is
    (kept_but_for f key k c.self.inside.awake.keys es c.remove.new.self.keys (c.remove.ensures.updates.0 k) idle)

pub returns-else-not-has_work-clause-done : goal.returns-else-not-has_work-clause-done
returns-else-not-has_work-clause-done c =
    let f = c.self.inside.format in
    let key = c.args.key.now in
    let es = c.self.inside.map.entries in
    let awake : is_awake key (all_of f es) ≡ true = awake_at f key es c.len.ensures.ordered ∙ sym c.has_work.ensures ∙ c.if-not-has_work.false in
    subst (λ r. r ≡ forgotten key r) c.self.view_is (seen_kept f key c.self.inside.awake.keys es awake)

pub returns-else-not-has_work-clause-keys : goal.returns-else-not-has_work-clause-keys
returns-else-not-has_work-clause-keys c = λ k.
    let f = c.self.inside.format in
    let key = c.args.key.now in
    let es = c.self.inside.map.entries in
    let awake : is_awake key (all_of f es) ≡ true = awake_at f key es c.len.ensures.ordered ∙ sym c.has_work.ensures ∙ c.if-not-has_work.false in
    subst (λ r. has_key k r.room ≡ is_still_kept key r k) c.self.view_is
    (all_kept f key k c.self.inside.awake.keys es awake)

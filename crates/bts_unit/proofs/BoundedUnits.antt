-- How the numbers of a unit's process rise with its calls, that a lone root stays one, and that key and format stay.
use Rattle.std.proofs.Common.{◌≡◌, ℕ, ◌+◌, ◌<◌, ◌≤◌, true, false, List, [], ◌∷◌, length, Option, None, Some, refl, ◌∙◌, subst, arith}
use Rattle.std.specs.List.{AllByRecursion}
use Rattle.bts_names.specs.Answer.{left_by}
use Rattle.bts_names.specs.declared.key.Key.{Key}
use Rattle.bts_names.specs.Names.{Name, ActivityPath}
use Rattle.bts_command.specs.declared.command.Command.{Command}
use Rattle.bts_command.specs.declared.ended.UnitKind.{UnitKind}
use Rattle.bts_container.specs.declared.format.Format.{Format}
use Rattle.bts_tree.specs.Processes.{Process, format_of}
use Rattle.bts_tree.specs.Soundness.{IsSoundInFrames, is_within, numbers_below}
use Rattle.bts_rows.specs.declared.places.Held.{Held}
use Rattle.bts_rows.specs.declared.places.Held.TheVariants as held
use Rattle.bts_rows.specs.Bounds.{is_lone, raised_by}
use Rattle.bts_rows.specs.Rows.{request_in}
use Rattle.bts_command.specs.Given.{IsGiven}
use Rattle.bts_rows.proofs.Acquiring.{raised_once}
use Rattle.bts_rows.proofs.Bounds.{lone_by_cause, lone_complete, within_act, within_below, within_by_cause, within_complete, within_generation, within_more, within_request}
use Rattle.bts_rows.proofs.FormatKept.{act_format, request_format}
use Rattle.bts_rows.proofs.Tables.{act_at_grows, request_in_grows}
use Rattle.bts_unit.specs.Calls.{call, run}
use Rattle.bts_unit.specs.Ends.{abended_whole}
use Rattle.bts_unit.specs.Frames.{OpenFrame, UnitOfWork, path_of, start}
use Rattle.bts_unit.specs.OneFrame.{is_of_one_frame, may_begin}
use Rattle.bts_unit.specs.Replays.{top_path}
use Rattle.bts_unit.specs.Soundness.{IsSoundIn, IsSoundLone, IsSoundWithin, makes_more_in}
use Rattle.bts_unit.proofs.Rising.{Rises}
use Rattle.bts_unit.proofs.Rising as rising

-- ---- numbers

abbrev pub any : Option ActivityPath → Command → Type 0
any at c = Unit {0}

module _ (g : ℕ) where
  -- the generation is at most g before anything was acquired
  abbrev pub within : ℕ → Held → Process → Type 0
  within n h s = is_within (raised_by h g) n s ≡ true

  pub within_rises : Rises within any
  within_rises = record {
    later = λ n h s k. within_more (raised_by h g) n (raised_by h g) (n + 1) s k (omega arith) (omega arith);
    turns = λ n h p why s. within_by_cause p s why None (raised_by h g) n;
    completes = λ n h p status code s. within_complete p s status code (raised_by h g) n;
    acts = λ n h p now s c a sound. within_act (p ∷ []) s sound p 1 now (raised_by h g) n c;
    requests = λ n h now s c a sound. within_request [] s sound h 1 now g n c;
    acquires = λ n h now s c before a sound w k.
        let x = left_by (s, h) (request_in h 1 now s c) in
        within_more (raised_by h g) n (raised_by x.1 g) n before k ((request_in_grows [] s sound h 1 now c).raised g) (omega arith);
  }

  module _ (n : ℕ) where
    pub starts_within : (kind : UnitKind) (moment : ℕ) (s : Process) → may_begin kind s ≡ true → IsSoundInFrames [] s → is_within g n s ≡ true → IsSoundWithin g n (start kind moment s)
    starts_within = rising.starts within any within_rises n

    pub calls_rise : (u : UnitOfWork) (c : Command) → length u.frames ≤ 1 → IsGiven c → is_of_one_frame (top_path u.frames) c ≡ true
        → IsSoundWithin g (n + length u.calls) u → IsSoundWithin g (n + length (call u c).1.calls) (call u c).1
    calls_rise u c few given = rising.calls within any within_rises n u c few given tt

    pub stops_within : (code : Name) (u : UnitOfWork) → IsSoundWithin g n u → IsSoundWithin g n (abended_whole code u)
    stops_within = rising.stops within any within_rises n

    -- ---- what they say of the process

    pub unit_generation : (u : UnitOfWork) → IsSoundWithin g n u → u.now.process.generation ≤ raised_by u.held g
    unit_generation u h = within_generation (raised_by u.held g) n u.now.process h.process.1

    pub unit_below : (m : ℕ) (u : UnitOfWork) → IsSoundWithin g n u → n < m → numbers_below m u.now.process ≡ true
    unit_below m u h l = within_below (raised_by u.held g) n m u.now.process h.process.1 l

    pub unit_within : (u : UnitOfWork) → IsSoundWithin g n u → is_within (g + 1) n u.now.process ≡ true
    unit_within u h = within_more (raised_by u.held g) n (g + 1) n u.now.process h.process.1 (raised_once u.held g) (omega arith)

-- ---- an activation acquires nothing

abbrev pub nothing : ℕ → Held → Process → Type 0
nothing n h s = h ≡ held.Never

abbrev pub in_frames : Option ActivityPath → Command → Type 0
in_frames None c = ⊥
in_frames (Some p) c = Unit {0}

pub nothing_rises : Rises nothing in_frames
nothing_rises = record {
  later = λ n h s k. k;
  turns = λ n h p why s k. k;
  completes = λ n h p status code s k. k;
  acts = λ n h p now s c a sound k. k;
  requests = λ n h now s c a sound k. absurd a;
  acquires = λ n h now s c before a sound w k. absurd a;
}

-- ---- a lone root

abbrev pub lone : ℕ → Held → Process → Type 0
lone n h s = is_lone s ≡ true

abbrev pub makes_none : Option ActivityPath → Command → Type 0
makes_none at c = makes_more_in at c ≡ false

pub lone_rises : Rises lone makes_none
lone_rises = record {
  later = λ n h s k. k;
  turns = λ n h p why s. lone_by_cause p s why None;
  completes = λ n h p status code s. lone_complete p s status code;
  acts = λ n h p now s c none sound k. (act_at_grows (p ∷ []) s sound p 1 now c).lone none k;
  requests = λ n h now s c none sound k. (request_in_grows [] s sound h 1 now c).process.lone refl k;
  acquires = λ n h now s c before none sound w k. k;
}

pub starts_lone : (kind : UnitKind) (moment : ℕ) (s : Process) → may_begin kind s ≡ true → IsSoundInFrames [] s → is_lone s ≡ true → IsSoundLone (start kind moment s)
starts_lone = rising.starts lone makes_none lone_rises 0

pub stays_lone : (u : UnitOfWork) (c : Command) → length u.frames ≤ 1 → IsGiven c → is_of_one_frame (top_path u.frames) c ≡ true → makes_more_in (top_path u.frames) c ≡ false
    → IsSoundLone u → IsSoundLone (call u c).1
stays_lone u c few given one none = rising.calls lone makes_none lone_rises 0 u c few given none one

pub stops_lone : (code : Name) (u : UnitOfWork) → IsSoundLone u → IsSoundLone (abended_whole code u)
stops_lone = rising.stops lone makes_none lone_rises 0

-- ---- the key

module _ (key : Key) where
  abbrev pub of_key : ℕ → Held → Process → Type 0
  of_key n h s = s.key ≡ key

  pub key_rises : Rises of_key any
  key_rises = record {
    later = λ n h s k. k;
    turns = λ n h p why s k. k;
    completes = λ n h p status code s k. k;
    acts = λ n h p now s c a sound k. (act_at_grows (p ∷ []) s sound p 1 now c).key ∙ k;
    requests = λ n h now s c a sound k. (request_in_grows [] s sound h 1 now c).process.key ∙ k;
    acquires = λ n h now s c before a sound w k. k;
  }

-- ---- the format

module _ (f : Format) where
  abbrev pub of_format : ℕ → Held → Process → Type 0
  of_format n h s = format_of s ≡ f

  pub format_rises : Rises of_format any
  format_rises = record {
    later = λ n h s k. k;
    turns = λ n h p why s k. k;
    completes = λ n h p status code s k. k;
    acts = λ n h p now s c a sound k. act_format p 1 now s c ∙ k;
    requests = λ n h now s c a sound k. request_format h 1 now s c ∙ k;
    acquires = λ n h now s c before a sound w k. k;
  }

  pub starts_in : (kind : UnitKind) (moment : ℕ) (s : Process) → may_begin kind s ≡ true → IsSoundInFrames [] s → format_of s ≡ f → IsSoundIn f (start kind moment s)
  starts_in = rising.starts of_format any format_rises 0

  pub stays_in : (u : UnitOfWork) (c : Command) → length u.frames ≤ 1 → IsGiven c → is_of_one_frame (top_path u.frames) c ≡ true → IsSoundIn f u → IsSoundIn f (call u c).1
  stays_in u c few given = rising.calls of_format any format_rises 0 u c few given tt

  pub stops_in : (code : Name) (u : UnitOfWork) → IsSoundIn f u → IsSoundIn f (abended_whole code u)
  stops_in = rising.stops of_format any format_rises 0

any_asked : (at : Option ActivityPath) (cs : List Command) → AllByRecursion (λ c. IsGiven c × (is_of_one_frame at c ≡ true)) cs → AllByRecursion (λ c. (IsGiven c × any at c) × (is_of_one_frame at c ≡ true)) cs
any_asked at [] h = tt
any_asked at (c ∷ cs) h = (((h.0.0, tt), h.0.1), any_asked at cs h.1)

-- behind commands of one frame it is that of the process with which the unit began
pub run_format : (kind : UnitKind) (moment : ℕ) (s : Process) (cs : List Command) → may_begin kind s ≡ true → IsSoundInFrames [] s
    → AllByRecursion (λ c. IsGiven c × (is_of_one_frame (path_of kind) c ≡ true)) cs → format_of (run (start kind moment s) cs).now.process ≡ format_of s
run_format kind moment s cs may sound given =
    (rising.runs (of_format (format_of s)) any (format_rises (format_of s)) 0 kind moment s cs may sound refl (any_asked (path_of kind) cs given)).process.1

-- ---- the process that a unit leaves behind commands of one frame

-- commands that a unit that begins so may be given
abbrev pub AreAsked : (Option ActivityPath → Command → Type 0) → UnitKind → List Command → Type 0
AreAsked Asked kind cs = AllByRecursion (λ c. (IsGiven c × Asked (path_of kind) c) × (is_of_one_frame (path_of kind) c ≡ true)) cs

-- where a code stands, all frames abend with it
abbrev pub abended_by : Option Name → UnitOfWork → UnitOfWork
abended_by None u = u
abended_by (Some code) u = abended_whole code u

held_case : (code : Name) (u : UnitOfWork) (fs : List OpenFrame) → let v : UnitOfWork = record u { frames = fs } in (abended_whole code v).held ≡ u.held
held_case code u [] = refl
held_case code u (f ∷ fs) = refl

module _ (Q : ℕ → Held → Process → Type 0) (Asked : Option ActivityPath → Command → Type 0) (rises : Rises Q Asked) (n : ℕ)
    (kind : UnitKind) (moment : ℕ) (s : Process) (cs : List Command) (may : may_begin kind s ≡ true) (sound : IsSoundInFrames [] s) (h : Q n held.Never s) (asked : AreAsked Asked kind cs) where
  abbrev behind : UnitOfWork
  behind = run (start kind moment s) cs

  abbrev last : ℕ
  last = n + length behind.calls

  pub left_by_abend : (o : Option Name) → (abended_by o behind).frames ≡ [] → IsSoundInFrames [] (abended_by o behind).now.process × Q last behind.held (abended_by o behind).now.process
  left_by_abend None e = rising.behind_end Q Asked rises last behind e (rising.runs Q Asked rises n kind moment s cs may sound h asked)
  left_by_abend (Some code) e =
      let x = rising.behind_end Q Asked rises last (abended_whole code behind) e (rising.stops Q Asked rises last code behind (rising.runs Q Asked rises n kind moment s cs may sound h asked)) in
      (x.0, subst (λ y. Q last y (abended_whole code behind).now.process) (held_case code behind behind.frames) x.1)

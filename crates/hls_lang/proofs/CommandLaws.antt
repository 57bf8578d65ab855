-- Commands and items that are read are those of their lines, and those of a line are read.
use Rattle.std.proofs.Common.{◌≡◌, ℕ, ◌^◌, ◌<◌, ◌≤◌, Bool, true, false, cond, List, [], ◌∷◌, ◌++◌}
use Rattle.std.proofs.Common.{inl, inr, length, append-nil}
use Rattle.std.proofs.Common.{refl, sym, ap, ◌∙◌, subst, lit<}
use Rattle.std.specs.Prelude.{◌==◌, ◌&&◌, not, codes, drop, Result, Ok, Option, Some, None}
use Rattle.std.specs.Str.{bytes_eq}
use Rattle.std.proofs.lemmas.Bool.{not-true, eqb-false, ne_eqb}
use Rattle.hls_text.specs.Lines.{Text}
use Rattle.hls_chron.specs.Name.{IsName}
use Rattle.hls_chron.specs.Ranges.{IsWithin}
use Rattle.hls_chron.specs.declared.plain.Config.{Config}
use Rattle.hls_chron.specs.declared.plain.Config.TheVariants as configs
use Rattle.hls_chron.proofs.ConfigLaws.{by_kind}
use Rattle.hls_lang.specs.declared.fault.Cause.{Cause}
use Rattle.hls_scenario.specs.declared.scenario.Perch.{Perch}
use Rattle.hls_scenario.specs.declared.scenario.Command.{Command}
use Rattle.hls_scenario.specs.declared.scenario.Command.TheVariants.{Load, Thread, End, Unload, Move, Wake, Block}
use Rattle.hls_scenario.specs.declared.scenario.Item.{Item}
use Rattle.hls_lang.specs.Words.{◌>>=◌, token_at, no_more, word_at, name_at, number_at, tick_at}
use Rattle.hls_lang.specs.Reading.{config_by, last_perch_at, ports_at, join_at, one_perch_at, load_by}
use Rattle.hls_lang.specs.Reading.{load_at, thread_at, move_at, last_name_at, burst_at, every_at}
use Rattle.hls_lang.specs.Reading.{is_periodic, waking_at, wake_at}
use Rattle.hls_lang.specs.Reading.{command_by, command_at, item_at}
use Rattle.hls_scenario.specs.Forms.{Form, the, number, config_forms, perch_forms, perches_forms, burst_forms}
use Rattle.hls_scenario.specs.Forms.{waking_forms, command_forms, item_forms}
use Rattle.hls_scenario.specs.Grammar.{IsPerch, IsLoad, IsBurst, IsWaking, IsCommand, IsLine}
use Rattle.hls_lang.proofs.Binds.{bind_ok, bind_again, carried, ok_is, choice, same_bytes, bytes_same}
use Rattle.hls_lang.proofs.Binds.{and_left, and_right, and_both}
use Rattle.hls_lang.proofs.Fronts.{Front, front_join, front_split, line_of_front, front_of_line}
use Rattle.hls_lang.proofs.WordLaws.{none_left, word_is, word_next, name_front, name_next}
use Rattle.hls_lang.proofs.WordLaws.{number_front, number_next, tick_front, tick_next}
use Rattle.hls_lang.proofs.ConfigLaws.{IsPlain, config_front, config_next, last_perch_front, last_perch_next}
use Rattle.hls_scenario.proofs.Loads.{IsSolo, by_load}
use Rattle.hls_lang.proofs.PortLaws.{ports_front, ports_next}

-- a command that is all of the tokens
abbrev pub Whole : (version : ℕ) → List Text → Command → Type 0
Whole version ts command = IsCommand version command × Front (command_forms version command) ts []

token_is : (ts : List Text) (w : Text × List Text) → token_at ts ≡ Ok w → ts ≡ w.0 ∷ w.1
token_is [] w e = absurd cc
token_is (t ∷ ts) w e = carried (λ (q : Text × List Text). t ∷ ts ≡ q.0 ∷ q.1) (t, ts) w e refl

-- ---- loads

plain_load : (version : ℕ) (config : Config) (perch : Perch) → IsPlain version config → IsPerch perch
    → IsLoad version config (perch ∷ [])
plain_load version config perch =
    by_kind (λ c. IsPlain version c → IsPerch perch → IsLoad version c (perch ∷ [])) (λ plain is. absurd plain)
    (λ plain is. (plain, is)) (λ plain is. (plain, is)) (λ sharing plain is. (plain, is))
    (λ quantum plain is. (plain, is)) (λ frame plain is. (plain, is)) (λ ports plain is. absurd plain) config

solo_plain : (version : ℕ) (config : Config) → IsSolo version config → IsPlain version config
solo_plain version =
    by_kind (λ c. IsSolo version c → IsPlain version c) (λ solo. absurd (solo.no_cpu refl)) (λ solo. solo.within)
    (λ solo. solo.within) (λ sharing solo. solo.within) (λ quantum solo. solo.within) (λ frame solo. solo.within)
    (λ ports solo. absurd (solo.no_join refl))

-- what stands after the name of a load
abbrev load_tail : (version : ℕ) → Config → List Perch → List Form
load_tail version config perches = config_forms version config ++ the (codes "on") ∷ perches_forms perches

abbrev LoadFront : (version : ℕ) → Text → List Text → Command → Type 0
LoadFront version name ts command =
    (config : Config) × (perches : List Perch) × (command ≡ Load name config perches) × IsLoad version config perches
    × Front (load_tail version config perches) ts []

join_front : (version : ℕ) (name t : Text) (ts : List Text) (command : Command) → t ≡ codes "join"
    → join_at name ts ≡ Ok command
    → LoadFront version name (t ∷ ts) command
unfolding join_at
join_front version name t ts command is e =
    let a = bind_ok (word_at (codes "on") ts) (λ r. ports_at r >>= λ ports. Ok
    (Load name (configs.Join (length ports)) ports)) command e in
    let b = bind_ok (ports_at a.0) (λ ports. Ok (Load name (configs.Join (length ports)) ports)) command
    a.2 in
    let on = word_is (codes "on") ts a.0 a.1 in
    let p = ports_front a.0 b.0 b.1 in (
      configs.Join (length b.0),
      b.0,
      sym (ok_is (Load name (configs.Join (length b.0)) b.0) command b.2),
      (refl, p.1, p.0),
      (is, front_join (the (codes "on") ∷ []) (perches_forms b.0) ts a.0 [] on p.2),
    )

one_front : (version : ℕ) (name : Text) (config : Config) (ts mid : List Text) (command : Command)
    → IsPlain version config
    → Front (config_forms version config) ts mid → one_perch_at name config mid ≡ Ok command
    → LoadFront version name ts command
unfolding one_perch_at
one_front version name config ts mid command plain front e =
    let a = bind_ok (word_at (codes "on") mid) (λ r. last_perch_at r >>= λ p. Ok
    (Load name config (p ∷ []))) command e in
    let b = bind_ok (last_perch_at a.0) (λ p. Ok (Load name config (p ∷ []))) command a.2 in
    let on = word_is (codes "on") mid a.0 a.1 in
    let p = last_perch_front a.0 b.0 b.1 in
    let perches : Front (perches_forms (b.0 ∷ [])) a.0 [] =
    subst (λ fs. Front fs a.0 []) (sym (append-nil (perch_forms b.0))) p.1 in (
      config,
      b.0 ∷ [],
      sym (ok_is (Load name config (b.0 ∷ [])) command b.2),
      plain_load version config b.0 plain p.0,
      front_join (config_forms version config) (the (codes "on") ∷ perches_forms (b.0 ∷ [])) ts mid [] front
          (front_join (the (codes "on") ∷ []) (perches_forms (b.0 ∷ [])) mid a.0 [] on perches),
    )

load_by_front : (version : ℕ) (name t : Text) (ts : List Text) (command : Command)
    → load_by version name t ts ≡ Ok command
    → LoadFront version name (t ∷ ts) command
unfolding load_by
load_by_front version name t ts command e = elim (choice (bytes_eq t (codes "join")) _ _ command e) [
  | inl h ↦ join_front version name t ts command (same_bytes t (codes "join") h.0) h.1
  | inr e ↦
      let a = bind_ok (config_by version t ts) (λ c. one_perch_at name c.0 c.1) command e in
      let h = config_front version t ts a.0 a.1 in
      one_front version name a.0.0 (t ∷ ts) a.0.1 command h.0 h.1 a.2
]

load_whole : (version : ℕ) (l name : Text) (ts mid behind : List Text) (t : Text) (command : Command)
    (config : Config) (perches : List Perch) → l ≡ codes "load" → IsName name → Front (the name ∷ []) ts mid
    → mid ≡ t ∷ behind
    → command ≡ Load name config perches → IsLoad version config perches
    → Front (load_tail version config perches) (t ∷ behind) []
    → Whole version (l ∷ ts) command
load_whole version l name ts mid behind t command config perches is named front cut made load tail =
    let whole : Front (load_tail version config perches) mid [] =
    subst (λ (x : List Text). Front (load_tail version config perches) x []) (sym cut) tail in
    subst (Whole version (l ∷ ts)) (sym made)
    ((named, load), (is, front_join (the name ∷ []) (load_tail version config perches) ts mid [] front whole))

load_front : (version : ℕ) (l : Text) (ts : List Text) (command : Command) → l ≡ codes "load"
    → load_at version ts ≡ Ok command
    → Whole version (l ∷ ts) command
unfolding load_at
load_front version l ts command is e =
    let a = bind_ok (name_at ts) (λ n. token_at n.1 >>= λ w. load_by version n.0 w.0 w.1) command e in
    let b = bind_ok (token_at a.0.1) (λ w. load_by version a.0.0 w.0 w.1) command a.2 in
    let name = name_front ts a.0 a.1 in
    let load = load_by_front version a.0.0 b.0.0 b.0.1 command b.2 in
    load_whole version l a.0.0 ts a.0.1 b.0.1 b.0.0 command load.0 load.1 is name.0 name.1
    (token_is a.0.1 b.0 b.1) load.2
    load.3 load.4

-- ---- the other commands

thread_front : (version : ℕ) (l : Text) (ts : List Text) (command : Command) → l ≡ codes "thread"
    → thread_at ts ≡ Ok command
    → Whole version (l ∷ ts) command
unfolding thread_at
thread_front version l ts command is e =
    let a = bind_ok (name_at ts) (λ n. word_at (codes "on") n.1 >>= λ r. last_perch_at r >>= λ p. Ok
    (Thread n.0 p)) command e in
    let b = bind_ok (word_at (codes "on") a.0.1) (λ r. last_perch_at r >>= λ p. Ok (Thread a.0.0 p))
    command a.2 in
    let d = bind_ok (last_perch_at b.0) (λ p. Ok (Thread a.0.0 p)) command b.2 in
    let name = name_front ts a.0 a.1 in
    let p = last_perch_front b.0 d.0 d.1 in
    carried (Whole version (l ∷ ts)) (Thread a.0.0 d.0) command d.2 (
      (name.0, p.0),
      (
        is,
        front_join (the a.0.0 ∷ []) (the (codes "on") ∷ perch_forms d.0) ts a.0.1 [] name.1
            (front_join (the (codes "on") ∷ []) (perch_forms d.0) a.0.1 b.0 []
            (word_is (codes "on") a.0.1 b.0 b.1) p.1),
      ),
    )

move_front : (version : ℕ) (l : Text) (ts : List Text) (command : Command) → l ≡ codes "move"
    → move_at ts ≡ Ok command
    → Whole version (l ∷ ts) command
unfolding move_at
move_front version l ts command is e =
    let a = bind_ok (name_at ts) (λ n. word_at (codes "to") n.1 >>= λ r. last_perch_at r >>= λ p. Ok
    (Move n.0 p)) command e in
    let b = bind_ok (word_at (codes "to") a.0.1) (λ r. last_perch_at r >>= λ p. Ok (Move a.0.0 p))
    command a.2 in
    let d = bind_ok (last_perch_at b.0) (λ p. Ok (Move a.0.0 p)) command b.2 in
    let name = name_front ts a.0 a.1 in
    let p = last_perch_front b.0 d.0 d.1 in
    carried (Whole version (l ∷ ts)) (Move a.0.0 d.0) command d.2 (
      (name.0, p.0),
      (
        is,
        front_join (the a.0.0 ∷ []) (the (codes "to") ∷ perch_forms d.0) ts a.0.1 [] name.1
            (front_join (the (codes "to") ∷ []) (perch_forms d.0) a.0.1 b.0 []
            (word_is (codes "to") a.0.1 b.0 b.1) p.1),
      ),
    )

abbrev LastName : List Text → Text → Type 0
LastName ts name = IsName name × Front (the name ∷ []) ts []

last_name_front : (ts : List Text) (name : Text) → last_name_at ts ≡ Ok name → LastName ts name
unfolding last_name_at
last_name_front ts name e =
    let a = bind_ok (name_at ts) (λ n. no_more n.1 >>= λ u. Ok n.0) name e in
    let b = bind_ok (no_more a.0.1) (λ u. Ok a.0.0) name a.2 in
    let h = name_front ts a.0 a.1 in
    carried (LastName ts) a.0.0 name b.2
    (h.0, subst (λ (r : List Text). Front (the a.0.0 ∷ []) ts r) (none_left a.0.1 b.0 b.1) h.1)

-- a command of a name alone
named_front : (version : ℕ) (make : Text → Command) (word l : Text) (ts : List Text) (command : Command)
    → ((name : Text) → IsName name → IsCommand version (make name))
    → ((name : Text) → command_forms version (make name) ≡ the word ∷ the name ∷ [])
    → l ≡ word → (last_name_at ts >>= λ n. Ok (make n)) ≡ Ok command → Whole version (l ∷ ts) command
named_front version make word l ts command within forms is e =
    let a = bind_ok (last_name_at ts) (λ n. Ok (make n)) command e in
    let h = last_name_front ts a.0 a.1 in
    carried (Whole version (l ∷ ts)) (make a.0) command a.2
    (within a.0 h.0, subst (λ fs. Front fs (l ∷ ts) []) (sym (forms a.0)) (is, h.1))

abbrev BurstFront : List Text → Option ℕ → Type 0
BurstFront ts burst = IsBurst burst × Front (burst_forms burst) ts []

burst_front : (ts : List Text) (burst : Option ℕ) → burst_at ts ≡ Ok burst → BurstFront ts burst
unfolding burst_at
burst_front [] burst e = carried (BurstFront []) None burst e (tt, refl)
burst_front (t ∷ ts) burst e =
    let a = bind_ok (word_at (codes "for") (t ∷ ts))
    (λ r. number_at 1 100000 r >>= λ n. no_more n.1 >>= λ u. Ok (Some n.0)) burst e in
    let b = bind_ok (number_at 1 100000 a.0) (λ n. no_more n.1 >>= λ u. Ok (Some n.0)) burst a.2 in
    let d = bind_ok (no_more b.0.1) (λ u. Ok (Some b.0.0)) burst b.2 in
    let h = number_front 1 100000 a.0 b.0 (lit< tt) b.1 in
    let ends = subst (λ (r : List Text). Front (number b.0.0 ∷ []) a.0 r) (none_left b.0.1 d.0 d.1) h.2 in
    carried (BurstFront (t ∷ ts)) (Some b.0.0) burst d.2 (
      (h.0, h.1),
      front_join (the (codes "for") ∷ []) (number b.0.0 ∷ []) (t ∷ ts) a.0 []
          (word_is (codes "for") (t ∷ ts) a.0 a.1) ends,
    )

-- a version that has a word for periods
later_version : (version : ℕ) → not (version == 1) ≡ true → version ≡ 1 → ⊥
later_version version e = eqb-false version 1 (not-true (version == 1) e)

abbrev WakingFront : (version : ℕ) → List Text → Option ℕ × Option ℕ → Type 0
WakingFront version ts w = IsWaking version w.0 w.1 × Front (waking_forms w.0 w.1) ts []

e3 : (period ticks : ℕ) → Unit {0} → Result (Option ℕ × Option ℕ) Cause
e3 period ticks u = Ok (Some period, Some ticks)

e2 : (period : ℕ) → ℕ × List Text → Result (Option ℕ × Option ℕ) Cause
e2 period n = no_more n.1 >>= e3 period n.0

e1 : (period : ℕ) → List Text → Result (Option ℕ × Option ℕ) Cause
e1 period r = number_at 1 100000 r >>= e2 period

e0 : ℕ × List Text → Result (Option ℕ × Option ℕ) Cause
e0 p = word_at (codes "burst") p.1 >>= e1 p.0

every_front : (version : ℕ) (t : Text) (ts : List Text) (w : Option ℕ × Option ℕ) → (version ≡ 1 → ⊥)
    → t ≡ codes "every" → every_at ts ≡ Ok w → WakingFront version (t ∷ ts) w
unfolding every_at e0 e1 e2 e3
every_front version t ts w later is e =
    let a = bind_ok (number_at 1 100000 ts) e0 w e in
    let b = bind_ok (word_at (codes "burst") a.0.1) (e1 a.0.0) w a.2 in
    let d = bind_ok (number_at 1 100000 b.0) (e2 a.0.0) w b.2 in
    let f = bind_ok (no_more d.0.1) (e3 a.0.0 d.0.0) w d.2 in
    let period = number_front 1 100000 ts a.0 (lit< tt) a.1 in
    let ticks = number_front 1 100000 b.0 d.0 (lit< tt) d.1 in
    let ends = subst (λ (r : List Text). Front (number d.0.0 ∷ []) b.0 r) (none_left d.0.1 f.0 f.1) ticks.2 in
    let burst = front_join (the (codes "burst") ∷ []) (number d.0.0 ∷ []) a.0.1 b.0 []
    (word_is (codes "burst") a.0.1 b.0 b.1) ends in
    carried (WakingFront version (t ∷ ts)) (Some a.0.0, Some d.0.0) w f.2 (
      (later, (period.0, period.1), (ticks.0, ticks.1)),
      (
        is,
        front_join (number a.0.0 ∷ []) (the (codes "burst") ∷ number d.0.0 ∷ []) ts a.0.1 [] period.2 burst,
      ),
    )

w0 : Option ℕ → Result (Option ℕ × Option ℕ) Cause
w0 burst = Ok (None, burst)

once_front : (version : ℕ) (ts : List Text) (w : Option ℕ × Option ℕ) → (burst_at ts >>= w0) ≡ Ok w
    → WakingFront version ts w
unfolding w0
once_front version ts w e =
    let a = bind_ok (burst_at ts) w0 w e in
    carried (WakingFront version ts) (None, a.0) w a.2 (burst_front ts a.0 a.1)

waking_front : (version : ℕ) (ts : List Text) (w : Option ℕ × Option ℕ) → waking_at version ts ≡ Ok w
    → WakingFront version ts w
unfolding waking_at w0
waking_front version [] w e = once_front version [] w e
waking_front version (t ∷ ts) w e =
    let later : Bool = not (version == 1) in
    elim (choice (later && bytes_eq t (codes "every")) (every_at ts) (burst_at (t ∷ ts) >>= w0) w e) [
      | inl h ↦ every_front version t ts w (later_version version (and_left later _ h.0))
          (same_bytes t (codes "every") (and_right later _ h.0)) h.1
      | inr once ↦ once_front version (t ∷ ts) w once
    ]

wake_front : (version : ℕ) (l : Text) (ts : List Text) (command : Command) → l ≡ codes "wake"
    → wake_at version ts ≡ Ok command
    → Whole version (l ∷ ts) command
unfolding wake_at
wake_front version l ts command is e =
    let a = bind_ok (name_at ts) (λ n. waking_at version n.1 >>= λ w. Ok (Wake n.0 w.0 w.1)) command e in
    let b = bind_ok (waking_at version a.0.1) (λ w. Ok (Wake a.0.0 w.0 w.1)) command a.2 in
    let name = name_front ts a.0 a.1 in
    let h = waking_front version a.0.1 b.0 b.1 in
    carried (Whole version (l ∷ ts)) (Wake a.0.0 b.0.0 b.0.1) command b.2 (
      (name.0, h.0),
      (is, front_join (the a.0.0 ∷ []) (waking_forms b.0.0 b.0.1) ts a.0.1 [] name.1 h.1),
    )

command_by_front : (version : ℕ) (l : Text) (ts : List Text) (command : Command)
    → command_by version l ts ≡ Ok command
    → Whole version (l ∷ ts) command
unfolding command_by
command_by_front version l ts command e = elim (choice (bytes_eq l (codes "load")) _ _ command e) [
  | inl h ↦ load_front version l ts command (same_bytes l (codes "load") h.0) h.1
  | inr e ↦ elim (choice (bytes_eq l (codes "thread")) _ _ command e) [
    | inl h ↦ thread_front version l ts command (same_bytes l (codes "thread") h.0) h.1
    | inr e ↦ elim (choice (bytes_eq l (codes "end")) _ _ command e) [
      | inl h ↦ named_front version (λ n. End n) (codes "end") l ts command (λ n is. is) (λ n. refl)
          (same_bytes l _ h.0) h.1
      | inr e ↦ elim (choice (bytes_eq l (codes "unload")) _ _ command e) [
        | inl h ↦ named_front version (λ n. Unload n) (codes "unload") l ts command (λ n is. is) (λ n. refl)
            (same_bytes l _ h.0) h.1
        | inr e ↦ elim (choice (bytes_eq l (codes "move")) _ _ command e) [
          | inl h ↦ move_front version l ts command (same_bytes l (codes "move") h.0) h.1
          | inr e ↦ elim (choice (bytes_eq l (codes "wake")) _ _ command e) [
            | inl h ↦ wake_front version l ts command (same_bytes l (codes "wake") h.0) h.1
            | inr e ↦ elim (choice (bytes_eq l (codes "block")) _ _ command e) [
              | inl h ↦ named_front version (λ n. Block n) (codes "block") l ts command (λ n is. is) (λ n. refl)
                  (same_bytes l _ h.0) h.1
              | inr e ↦ absurd cc
            ]
          ]
        ]
      ]
    ]
  ]
]

command_front : (version : ℕ) (ts : List Text) (command : Command) → command_at version ts ≡ Ok command
    → Whole version ts command
unfolding command_at
command_front version [] command e = absurd cc
command_front version (l ∷ ts) command e = command_by_front version l ts command e

-- ---- a command of a line is read

join_next : (version : ℕ) (name : Text) (ports : ℕ) (perches : List Perch) (t : Text) (ts : List Text)
    → IsLoad version (configs.Join ports) perches
    → Front (load_tail version (configs.Join ports) perches) (t ∷ ts) []
    → load_by version name t ts ≡ Ok (Load name (configs.Join ports) perches)
unfolding load_by join_at
join_next version name ports perches t ts is a =
    let on = front_split (the (codes "on") ∷ []) (perches_forms perches) ts [] a.1 in
    let within : IsWithin 2 4 (length perches) = subst (IsWithin 2 4) is.0 is.1 in
    ap (λ b. cond b (join_at name ts) (config_by version t ts >>= λ c. one_perch_at name c.0 c.1))
    (bytes_same t (codes "join") a.0)
    ∙ bind_again (word_at (codes "on") ts) (λ r. ports_at r >>= λ qs. Ok
    (Load name (configs.Join (length qs)) qs)) on.0
    (Load name (configs.Join ports) perches) (word_next (codes "on") ts on.0 on.1)
    (bind_again (ports_at on.0) (λ qs. Ok (Load name (configs.Join (length qs)) qs)) perches
    (Load name (configs.Join ports) perches) (ports_next perches on.0 is.2 within on.2)
    (ap (λ n. Ok (Load name (configs.Join n) perches)) (sym is.0)))

one_next : (name : Text) (config : Config) (perch : Perch) (ts : List Text) → IsPerch perch
    → Front (the (codes "on") ∷ perches_forms (perch ∷ [])) ts []
    → one_perch_at name config ts ≡ Ok (Load name config (perch ∷ []))
unfolding one_perch_at
one_next name config perch ts is a =
    let on = front_split (the (codes "on") ∷ []) (perches_forms (perch ∷ [])) ts [] a in
    let front : Front (perch_forms perch) on.0 [] =
    subst (λ fs. Front fs on.0 []) (append-nil (perch_forms perch)) on.2 in
    bind_again (word_at (codes "on") ts) (λ r. last_perch_at r >>= λ p. Ok (Load name config (p ∷ []))) on.0
    (Load name config (perch ∷ [])) (word_next (codes "on") ts on.0 on.1)
    (ap (λ r. r >>= λ p. Ok (Load name config (p ∷ []))) (last_perch_next perch on.0 is front))

plain_next : (version : ℕ) (name : Text) (config : Config) (perch : Perch) (ts : List Text) (t : Text)
    → IsPlain version config
    → IsPerch perch
    → Front (load_tail version config (perch ∷ [])) (t ∷ ts) []
    → load_by version name t ts ≡ Ok (Load name config (perch ∷ []))
unfolding load_by
plain_next version name config perch ts t plain is a =
    let s = front_split (config_forms version config) (the (codes "on") ∷ perches_forms (perch ∷ [])) (t ∷ ts)
    [] a in
    let c = config_next version config t ts s.0 plain s.1 in
    ap (λ b. cond b (join_at name ts) (config_by version t ts >>= λ c. one_perch_at name c.0 c.1)) c.1
    ∙ bind_again (config_by version t ts) (λ c. one_perch_at name c.0 c.1) (config, s.0)
    (Load name config (perch ∷ [])) c.0
    (one_next name config perch s.0 is s.2)

load_by_next : (version : ℕ) (name : Text) (config : Config) (perches : List Perch) (t : Text) (ts : List Text)
    → IsLoad version config perches → Front (load_tail version config perches) (t ∷ ts) []
    → load_by version name t ts ≡ Ok (Load name config perches)
load_by_next version name config perches t ts =
    by_load version (λ c ps. Front (load_tail version c ps) (t ∷ ts) [] → load_by version name t ts ≡ Ok
    (Load name c ps))
    (λ c p solo is. plain_next version name c p ts t (solo_plain version c solo) is)
    (λ ports ps is. join_next version name ports ps t ts is) config perches

-- the tail of a load is not empty
tail_some : (version : ℕ) (name : Text) (config : Config) (perches : List Perch) (ts : List Text)
    → IsLoad version config perches → Front (load_tail version config perches) ts []
    → (token_at ts >>= λ w. load_by version name w.0 w.1) ≡ Ok (Load name config perches)
tail_some version name config perches [] is a =
    let s = front_split (config_forms version config) (the (codes "on") ∷ perches_forms perches) [] [] a in
    absurd (no_on config (perches_forms perches) s.0 s.1 s.2)
  where
    no_on : (config : Config) (fs : List Form) (mid : List Text) → Front (config_forms version config) [] mid
        → Front (the (codes "on") ∷ fs) mid [] → ⊥
    no_on config fs mid =
        by_kind (λ c. Front (config_forms version c) [] mid → Front (the (codes "on") ∷ fs) mid [] → ⊥)
        (λ a b. subst (λ (x : List Text). Front (the (codes "on") ∷ fs) x []) (sym a) b)
        (λ a b. a) (λ a b. a) (λ sharing a b. a) (λ quantum a b. a) (λ frame a b. a) (λ ports a b. a) config
tail_some version name config perches (t ∷ ts) is a = load_by_next version name config perches t ts is a

load_next : (version : ℕ) (name : Text) (config : Config) (perches : List Perch) (ts : List Text) → IsName name
    → IsLoad version config perches → Front (the name ∷ load_tail version config perches) ts []
    → load_at version ts ≡ Ok (Load name config perches)
unfolding load_at
load_next version name config perches ts named is a =
    let n = front_split (the name ∷ []) (load_tail version config perches) ts [] a in
    bind_again (name_at ts) (λ m. token_at m.1 >>= λ w. load_by version m.0 w.0 w.1) (name, n.0)
    (Load name config perches)
    (name_next ts name n.0 named n.1) (tail_some version name config perches n.0 is n.2)

thread_next : (name : Text) (perch : Perch) (ts : List Text) → IsName name → IsPerch perch
    → Front (the name ∷ the (codes "on") ∷ perch_forms perch) ts [] → thread_at ts ≡ Ok (Thread name perch)
unfolding thread_at
thread_next name perch ts named is a =
    let n = front_split (the name ∷ []) (the (codes "on") ∷ perch_forms perch) ts [] a in
    let w = front_split (the (codes "on") ∷ []) (perch_forms perch) n.0 [] n.2 in
    bind_again (name_at ts) (λ m. word_at (codes "on") m.1 >>= λ r. last_perch_at r >>= λ p. Ok
    (Thread m.0 p)) (name, n.0)
    (Thread name perch) (name_next ts name n.0 named n.1)
    (bind_again (word_at (codes "on") n.0) (λ r. last_perch_at r >>= λ p. Ok (Thread name p)) w.0
    (Thread name perch)
    (word_next (codes "on") n.0 w.0 w.1)
    (ap (λ r. r >>= λ p. Ok (Thread name p)) (last_perch_next perch w.0 is w.2)))

move_next : (name : Text) (perch : Perch) (ts : List Text) → IsName name → IsPerch perch
    → Front (the name ∷ the (codes "to") ∷ perch_forms perch) ts [] → move_at ts ≡ Ok (Move name perch)
unfolding move_at
move_next name perch ts named is a =
    let n = front_split (the name ∷ []) (the (codes "to") ∷ perch_forms perch) ts [] a in
    let w = front_split (the (codes "to") ∷ []) (perch_forms perch) n.0 [] n.2 in
    bind_again (name_at ts) (λ m. word_at (codes "to") m.1 >>= λ r. last_perch_at r >>= λ p. Ok
    (Move m.0 p)) (name, n.0)
    (Move name perch) (name_next ts name n.0 named n.1)
    (bind_again (word_at (codes "to") n.0) (λ r. last_perch_at r >>= λ p. Ok (Move name p)) w.0
    (Move name perch)
    (word_next (codes "to") n.0 w.0 w.1)
    (ap (λ r. r >>= λ p. Ok (Move name p)) (last_perch_next perch w.0 is w.2)))

last_name_next : (name : Text) (ts : List Text) → IsName name → Front (the name ∷ []) ts []
    → last_name_at ts ≡ Ok name
unfolding last_name_at
last_name_next name ts named a =
    bind_again (name_at ts) (λ n. no_more n.1 >>= λ u. Ok n.0) (name, []) name
    (name_next ts name [] named a) refl

burst_next : (burst : Option ℕ) (ts : List Text) → IsBurst burst → Front (burst_forms burst) ts []
    → burst_at ts ≡ Ok burst
unfolding burst_at
burst_next None [] is a = refl
burst_next None (t ∷ ts) is a = absurd cc
burst_next (Some ticks) [] is a = absurd a
burst_next (Some ticks) (t ∷ ts) is a =
    bind_again (word_at (codes "for") (t ∷ ts)) (λ r. number_at 1 100000 r >>= λ n. no_more n.1 >>= λ u.
    Ok (Some n.0)) ts
    (Some ticks) (word_next (codes "for") (t ∷ ts) ts (a.0, refl))
    (bind_again (number_at 1 100000 ts) (λ n. no_more n.1 >>= λ u. Ok (Some n.0)) (ticks, []) (Some ticks)
    (number_next 1 100000 ts ticks [] (lit< tt) is.0 is.1 a.1) refl)

every_next : (period ticks : ℕ) (ts : List Text) → IsWithin 1 100000 period → IsWithin 1 100000 ticks
    → Front (number period ∷ the (codes "burst") ∷ number ticks ∷ []) ts []
    → every_at ts ≡ Ok (Some period, Some ticks)
unfolding every_at e0 e1 e2 e3
every_next period ticks ts often fits a =
    let p = front_split (number period ∷ []) (the (codes "burst") ∷ number ticks ∷ []) ts [] a in
    let b = front_split (the (codes "burst") ∷ []) (number ticks ∷ []) p.0 [] p.2 in
    bind_again (number_at 1 100000 ts) e0 (period, p.0) (Some period, Some ticks)
    (number_next 1 100000 ts period p.0 (lit< tt) often.0 often.1 p.1)
    (bind_again (word_at (codes "burst") p.0) (e1 period) b.0 (Some period, Some ticks)
    (word_next (codes "burst") p.0 b.0 b.1)
    (bind_again (number_at 1 100000 b.0) (e2 period) (ticks, []) (Some period, Some ticks)
    (number_next 1 100000 b.0 ticks [] (lit< tt) fits.0 fits.1 b.2) refl))

later_again : (version : ℕ) → (version ≡ 1 → ⊥) → not (version == 1) ≡ true
later_again version later = ap not (ne_eqb version 1 later)

and_none : (b : Bool) → (b && false) ≡ false
and_none true = refl
and_none false = refl

-- a burst begins with another word
not_every : (version : ℕ) (ticks : ℕ) (ts : List Text) → Front (burst_forms (Some ticks)) ts []
    → is_periodic version ts ≡ false
not_every version ticks [] a = absurd a
not_every version ticks (t ∷ ts) a =
    ap (λ (x : Text). not (version == 1) && bytes_eq x (codes "every")) a.0 ∙ and_none (not (version == 1))

once_next : (version : ℕ) (burst : Option ℕ) (ts : List Text) → IsBurst burst → is_periodic version ts ≡ false
    → Front (burst_forms burst) ts [] → waking_at version ts ≡ Ok (None, burst)
unfolding waking_at w0
once_next version burst ts is once a =
    ap (λ b. cond b (every_at (drop 1 ts)) (burst_at ts >>= w0)) once
    ∙ ap (λ r. r >>= w0) (burst_next burst ts is a)

waking_next : (version : ℕ) (every burst : Option ℕ) (ts : List Text) → IsWaking version every burst
    → Front (waking_forms every burst) ts [] → waking_at version ts ≡ Ok (every, burst)
unfolding waking_at w0
waking_next version None None [] is a = once_next version None [] is refl a
waking_next version None None (t ∷ ts) is a = absurd cc
waking_next version None (Some ticks) ts is a =
    once_next version (Some ticks) ts is (not_every version ticks ts a) a
waking_next version (Some period) None ts is a = absurd is
waking_next version (Some period) (Some ticks) [] is a = absurd a
waking_next version (Some period) (Some ticks) (t ∷ ts) is a =
    let test = and_both (not (version == 1)) _ (later_again version is.0) (bytes_same t (codes "every") a.0) in
    ap (λ b. cond b (every_at ts) (burst_at (t ∷ ts) >>= w0)) test
    ∙ every_next period ticks ts is.1 is.2 a.1

wake_next : (version : ℕ) (name : Text) (every burst : Option ℕ) (ts : List Text) → IsName name
    → IsWaking version every burst → Front (the name ∷ waking_forms every burst) ts []
    → wake_at version ts ≡ Ok (Wake name every burst)
unfolding wake_at
wake_next version name every burst ts named is a =
    let n = front_split (the name ∷ []) (waking_forms every burst) ts [] a in
    bind_again (name_at ts) (λ m. waking_at version m.1 >>= λ w. Ok (Wake m.0 w.0 w.1)) (name, n.0)
    (Wake name every burst) (name_next ts name n.0 named n.1)
    (ap (λ (r : Result (Option ℕ × Option ℕ) Cause). r >>= λ (w : Option ℕ × Option ℕ). Ok (Wake name w.0 w.1))
    (waking_next version every burst n.0 is n.2))

command_next : (version : ℕ) (command : Command) (ts : List Text) → IsCommand version command
    → Front (command_forms version command) ts []
    → command_at version ts ≡ Ok command
unfolding command_at command_by
command_next version (Load name config perches) [] is a = absurd a
command_next version (Load name config perches) (l ∷ ts) is a =
    ap (λ w. command_by version w ts) a.0 ∙ load_next version name config perches ts is.0 is.1 a.1
command_next version (Thread name perch) [] is a = absurd a
command_next version (Thread name perch) (l ∷ ts) is a =
    ap (λ w. command_by version w ts) a.0 ∙ thread_next name perch ts is.0 is.1 a.1
command_next version (Move name perch) [] is a = absurd a
command_next version (Move name perch) (l ∷ ts) is a =
    ap (λ w. command_by version w ts) a.0 ∙ move_next name perch ts is.0 is.1 a.1
command_next version (End name) [] is a = absurd a
command_next version (End name) (l ∷ ts) is a =
    ap (λ w. command_by version w ts) a.0 ∙ ap (λ r. r >>= λ n. Ok (End n)) (last_name_next name ts is a.1)
command_next version (Unload name) [] is a = absurd a
command_next version (Unload name) (l ∷ ts) is a =
    ap (λ w. command_by version w ts) a.0 ∙ ap (λ r. r >>= λ n. Ok (Unload n)) (last_name_next name ts is a.1)
command_next version (Block name) [] is a = absurd a
command_next version (Block name) (l ∷ ts) is a =
    ap (λ w. command_by version w ts) a.0 ∙ ap (λ r. r >>= λ n. Ok (Block n)) (last_name_next name ts is a.1)
command_next version (Wake name every burst) [] is a = absurd a
command_next version (Wake name every burst) (l ∷ ts) is a =
    ap (λ w. command_by version w ts) a.0 ∙ wake_next version name every burst ts is.0 is.1 a.1

-- ---- items

abbrev pub ItemLine : (version horizon last : ℕ) → List Text → Item → Type 0
ItemLine version horizon last ts item =
    IsCommand version item.command × (last ≤ item.tick) × (item.tick < horizon)
    × IsLine (item_forms version item) ts

i2 : ℕ → Command → Result Item Cause
i2 tick command = Ok (record { tick = tick; command = command })

i1 : (version : ℕ) → ℕ × List Text → Result Item Cause
i1 version t = command_at version t.1 >>= i2 t.0

i0 : (version horizon last : ℕ) → List Text → Result Item Cause
i0 version horizon last r = tick_at horizon last r >>= i1 version

-- what is read of a line is an item
pub item_is : (version horizon last : ℕ) (ts : List Text) (item : Item) → horizon < 2 ^ 64
    → item_at version horizon last ts ≡ Ok item → ItemLine version horizon last ts item
unfolding item_at i0 i1 i2
item_is version horizon last ts item fits e =
    let a = bind_ok (word_at (codes "at") ts) (i0 version horizon last) item e in
    let b = bind_ok (tick_at horizon last a.0) (i1 version) item a.2 in
    let d = bind_ok (command_at version b.0.1) (i2 b.0.0) item b.2 in
    let at = word_is (codes "at") ts a.0 a.1 in
    let tick = tick_front horizon last a.0 b.0 fits b.1 in
    let command = command_front version b.0.1 d.0 d.1 in
    let made : Item = record { tick = b.0.0; command = d.0 } in
    let front = front_join (the (codes "at") ∷ []) (number b.0.0 ∷ command_forms version d.0) ts a.0 [] at
    (front_join (number b.0.0 ∷ []) (command_forms version d.0) a.0 b.0.1 [] tick.2 command.1) in
    carried (ItemLine version horizon last ts) made item d.2
    (command.0, tick.0, tick.1, line_of_front (item_forms version made) ts front)

-- an item is read
pub item_next : (version horizon last : ℕ) (ts : List Text) (item : Item) → horizon < 2 ^ 64
    → ItemLine version horizon last ts item → item_at version horizon last ts ≡ Ok item
unfolding item_at i0 i1 i2
item_next version horizon last ts item fits is =
    let front = front_of_line (item_forms version item) ts is.3 in
    let at = front_split (the (codes "at") ∷ []) (number item.tick ∷ command_forms version item.command) ts []
    front in
    let tick = front_split (number item.tick ∷ []) (command_forms version item.command) at.0 [] at.2 in
    bind_again (word_at (codes "at") ts) (i0 version horizon last) at.0 item
    (word_next (codes "at") ts at.0 at.1)
    (bind_again (tick_at horizon last at.0) (i1 version) (item.tick, tick.0) item
    (tick_next horizon last at.0 item.tick tick.0 fits is.1 is.2 tick.1)
    (bind_again (command_at version tick.0) (i2 item.tick) item.command item
    (command_next version item.command tick.0 is.0 tick.2) refl))

-- A scenario is read of lines exactly where they are its lines.
use Rattle.std.proofs.Common.{◌≡◌, ℕ, suc, ◌+◌, ◌^◌, ◌<◌, ◌≤◌, Bool, true, false, cond, List, [], ◌∷◌}
use Rattle.std.proofs.Common.{◌++◌, length, map, inl, inr}
use Rattle.std.proofs.Common.{refl, sym, ap, ◌∙◌, subst, arith, append_assoc, append-nil, length-append}
use Rattle.std.specs.Prelude.{◌&&◌, nat_le, codes, Result, Ok, Err, Option, Some, None}
use Rattle.std.specs.List.{AllByRecursion}
use Rattle.std.specs.Str.{bytes_eq}
use Rattle.std.proofs.lemmas.Bool.{leb-false, lt-leb}
use Rattle.hls_text.specs.Lines.{Text, shown_of, is_clean_line}
use Rattle.hls_text.specs.Tokens.{tokens_of}
use Rattle.hls_chron.specs.Ranges.{IsWithin, IsVersion, most_ticks}
use Rattle.hls_lang.specs.declared.fault.Cause.{Cause}
use Rattle.hls_lang.specs.declared.fault.Cause.TheVariants as causes
use Rattle.hls_scenario.specs.declared.scenario.Item.{Item}
use Rattle.hls_scenario.specs.declared.scenario.Scenario.{Scenario}
use Rattle.hls_lang.specs.declared.reader.Stage.{Stage}
use Rattle.hls_lang.specs.declared.reader.Stage.TheVariants.{AtHeader, AtHorizon, AtDepth, AtItems}
use Rattle.hls_lang.specs.Words.{◌>>=◌}
use Rattle.hls_lang.specs.Reading.{item_at}
use Rattle.hls_lang.specs.ReadingLines.{State, Fault, start, header_at, horizon_at, depth_at, caused}
use Rattle.hls_lang.specs.ReadingLines.{begins_with, is_full, with_item, item_step, with_depth}
use Rattle.hls_lang.specs.ReadingLines.{depth_step, stage_step, tokens_step, line_step, read_of}
use Rattle.hls_lang.specs.ReadingLines.{finish_at, goes_on, lines_from}
use Rattle.hls_scenario.specs.Forms.{item_forms, header_forms, horizon_forms, depth_forms}
use Rattle.hls_scenario.specs.Forms.{depth_lines, scenario_lines}
use Rattle.hls_scenario.specs.Grammar.{IsCommand, AreItems, IsDepth, IsScenario, IsLine, AreLines, onto_lines}
use Rattle.hls_scenario.specs.Grammar.{token_lines, AreScenarioLines}
use Rattle.hls_scenario.proofs.CanonicalForms.{most_ticks_fit}
use Rattle.hls_lang.proofs.Binds.{bind_ok, carried, choice}
use Rattle.hls_lang.proofs.Binds.{bytes_same}
use Rattle.hls_lang.proofs.CommandLaws.{ItemLine, item_is, item_next}
use Rattle.hls_lang.proofs.HeadLaws.{caused_ok, header_is, header_next, horizon_is, horizon_next}
use Rattle.hls_lang.proofs.HeadLaws.{depth_is, depth_next}

-- ---- what is still to come

abbrev pub Lines : Type 0
Lines = List (List Text)

-- the items that are still to come
pub record ItemsAhead (s : State) (lines : Lines) (r : Scenario) : Type 0 where
  pub items : List Item
  pub whole : r.items ≡ s.items ++ items
  pub each : AreItems r.version r.horizon s.last items
  pub few : length r.items ≤ 65536
  pub words : AreLines (map (item_forms r.version) items) lines

abbrev pub DepthAhead : Option ℕ → State → Lines → Scenario → Type 0
DepthAhead None s lines r = ItemsAhead s lines r
DepthAhead (Some d) s [] r = ⊥
DepthAhead (Some d) s (l ∷ lines) r = (d ≤ 6) × IsLine (depth_forms d) l × ItemsAhead s lines r

abbrev pub HorizonAhead : State → Lines → Scenario → Type 0
HorizonAhead s [] r = ⊥
HorizonAhead s (l ∷ lines) r =
    IsWithin 1 (most_ticks r.version) r.horizon × IsLine (horizon_forms r.horizon) l
    × DepthAhead r.depth s lines r

-- the scenario has the version and the horizon that were read
abbrev pub AsRead : State → Scenario → Type 0
AsRead s r = (r.version ≡ s.version) × (r.horizon ≡ s.horizon)

abbrev pub Ahead : Stage → State → Lines → Scenario → Type 0
Ahead AtHeader s [] r = ⊥
Ahead AtHeader s (l ∷ lines) r = IsVersion r.version × IsLine (header_forms r.version) l × HorizonAhead s lines r
Ahead AtHorizon s lines r = (r.version ≡ s.version) × HorizonAhead s lines r
Ahead AtDepth s lines r = AsRead s r × DepthAhead r.depth s lines r
Ahead AtItems s lines r = AsRead s r × (r.depth ≡ s.depth) × ItemsAhead s lines r

abbrev pub IsFresh : Stage → State → Type 0
IsFresh AtItems s = Unit {0}
IsFresh _ s = s.depth ≡ None

-- what a reader keeps
pub record Good (stage : Stage) (s : State) : Type 0 where
  pub horizon : s.horizon ≤ 1000000
  pub few : length s.items ≤ 65536
  pub fresh : IsFresh stage s

-- a step that was taken
pub record Stepped (stage : Stage) (s s' : State) (l : List Text) : Type 0 where
  pub good : Good s'.stage s'
  pub back : (lines : Lines) (r : Scenario) → Ahead s'.stage s' lines r → Ahead stage s (l ∷ lines) r

with_item_length : (s : State) (item : Item) → length (s.items ++ item ∷ []) ≡ length s.items + 1
with_item_length s item = length-append s.items (item ∷ [])

not_full : (b c : Bool) (x : Result State Cause) (y : State) → cond (b && c) (Err causes.Many) x ≡ Ok y
    → (x ≡ Ok y) × ((c ≡ true) → b ≡ false)
not_full true true x y e = absurd cc
not_full true false x y e = (e, λ f. absurd cc)
not_full false c x y e = (e, λ f. refl)

at_first : (version : ℕ) (item : Item) (ts : List Text) → IsLine (item_forms version item) ts
    → begins_with (codes "at") ts ≡ true
at_first version item [] is = absurd is
at_first version item (t ∷ ts) is = bytes_same t (codes "at") is.0

item_ahead : (s : State) (item : Item) (l : List Text) (lines : Lines) (r : Scenario)
    → ItemLine s.version s.horizon s.last l item → AsRead s r
    → ItemsAhead (with_item s item) lines r → ItemsAhead s (l ∷ lines) r
item_ahead s item l lines r it same ahead = record {
  items = item ∷ ahead.items;
  whole = ahead.whole ∙ append_assoc s.items (item ∷ []) ahead.items;
  each = (
    subst (λ v. IsCommand v item.command) (sym same.0) it.0,
    it.1,
    subst (λ h. item.tick < h) (sym same.1) it.2,
    ahead.each,
  );
  few = ahead.few;
  words = (subst (λ v. IsLine (item_forms v item) l) (sym same.0) it.3, ahead.words);
}

-- an item, where the depth is known
pub record ItemStepped (s s' : State) (l : List Text) : Type 0 where
  pub item : Item
  pub made : s' ≡ with_item s item
  pub few : length s'.items ≤ 65536
  pub back : (lines : Lines) (r : Scenario) → AsRead s r → ItemsAhead s' lines r → ItemsAhead s (l ∷ lines) r

item_stepped : (s s' : State) (l : List Text) → s.horizon ≤ 1000000 → length s.items ≤ 65536
    → item_step s l ≡ Ok s' → ItemStepped s s' l
unfolding item_step
item_stepped s s' l horizon few e =
    let g = not_full (is_full s.items) (begins_with (codes "at") l)
    (item_at s.version s.horizon s.last l >>= λ item. Ok (with_item s item)) s' e in
    let a = bind_ok (item_at s.version s.horizon s.last l) (λ item. Ok (with_item s item)) s' g.0 in
    let fits : s.horizon < 2 ^ 64 = omega arith in
    let it = item_is s.version s.horizon s.last l a.0 fits a.1 in
    let room : length s.items < 65536 = leb-false 65536 (length s.items) (g.1 (at_first s.version a.0 l it.3)) in
    let most : length (s.items ++ a.0 ∷ []) ≤ 65536 = let n = with_item_length s a.0 in omega arith in
    carried (λ (x : State). ItemStepped s x l) (with_item s a.0) s' a.2 (record {
      item = a.0;
      made = refl;
      few = most;
      back = λ lines r same ahead. item_ahead s a.0 l lines r it same ahead;
    })

by_items : (s s' : State) (l : List Text) → s.horizon ≤ 1000000 → ItemStepped s s' l → Stepped AtItems s s' l
by_items s s' l horizon step =
    let made : State = with_item s step.item in
    subst (λ (x : State). Stepped AtItems s x l) {x = made} (sym step.made) (record {
      good = record {
        horizon = horizon;
        few = subst (λ (x : State). length x.items ≤ 65536) step.made step.few;
        fresh = tt;
      };
      back = λ lines r ahead. (
        ahead.0,
        ahead.1,
        step.back lines r ahead.0
            (subst (λ (x : State). ItemsAhead x lines r) (sym step.made) ahead.2),
      );
    })

depth_none : (d : Option ℕ) (s : State) (l : List Text) (lines : Lines) (r : Scenario) → d ≡ None
    → ItemsAhead s (l ∷ lines) r → DepthAhead d s (l ∷ lines) r
depth_none None s l lines r e ahead = ahead
depth_none (Some d) s l lines r e ahead = absurd cc

by_first_item : (s s' : State) (l : List Text) → s.horizon ≤ 1000000 → s.depth ≡ None → ItemStepped s s' l
    → Stepped AtDepth s s' l
by_first_item s s' l horizon fresh step =
    let made : State = with_item s step.item in
    subst (λ (x : State). Stepped AtDepth s x l) {x = made} (sym step.made) (record {
      good = record {
        horizon = horizon;
        few = subst (λ (x : State). length x.items ≤ 65536) step.made step.few;
        fresh = tt;
      };
      back = λ lines r ahead. (
        ahead.0,
        depth_none r.depth s l lines r (ahead.1 ∙ fresh)
            (step.back lines r ahead.0 (subst (λ (x : State). ItemsAhead x lines r) (sym step.made) ahead.2)),
      );
    })

depth_some : (d : Option ℕ) (n : ℕ) (s : State) (l : List Text) (lines : Lines) (r : Scenario) → d ≡ Some n
    → n ≤ 6 → IsLine (depth_forms n) l → ItemsAhead s lines r → DepthAhead d s (l ∷ lines) r
depth_some None n s l lines r e most line ahead = absurd cc
depth_some (Some d) n s l lines r e most line ahead =
    let same : n ≡ d = cc in
    (subst (λ m. m ≤ 6) same most, subst (λ m. IsLine (depth_forms m) l) same line, ahead)

same_items : (s : State) (n : ℕ) (lines : Lines) (r : Scenario) → ItemsAhead (with_depth s n) lines r
    → ItemsAhead s lines r
same_items s n lines r ahead =
    record {
      items = ahead.items;
      whole = ahead.whole;
      each = ahead.each;
      few = ahead.few;
      words =
          ahead.words;
    }

by_depth : (s : State) (n : ℕ) (l : List Text) → s.horizon ≤ 1000000 → length s.items ≤ 65536 → n ≤ 6
    → IsLine (depth_forms n) l → Stepped AtDepth s (with_depth s n) l
by_depth s n l horizon few most line = record {
  good = record { horizon = horizon; few = few; fresh = tt };
  back = λ lines r ahead. (
    ahead.0,
    depth_some r.depth n s l lines r ahead.1 most line
        (same_items s n lines r ahead.2),
  );
}

depth_stepped : (s s' : State) (l : List Text) → Good AtDepth s → depth_step s l ≡ Ok s'
    → Stepped AtDepth s s' l
unfolding depth_step
depth_stepped s s' l good e = elim (choice (begins_with (codes "depth") l) _ _ s' e) [
  | inl h ↦
      let a = bind_ok (depth_at l) (λ d. Ok (with_depth s d)) s' h.1 in
      let d = depth_is l a.0 a.1 in
      carried (λ (x : State). Stepped AtDepth s x l) (with_depth s a.0) s' a.2
      (by_depth s a.0 l good.horizon good.few d.0 d.1)
  | inr e ↦ by_first_item s s' l good.horizon good.fresh (item_stepped s s' l good.horizon good.few e)
]

moved : (s : State) (v h : ℕ) (stage : Stage) (d : Option ℕ) (lines : Lines) (r : Scenario)
    → DepthAhead d (record s { stage = stage; version = v; horizon = h }) lines r → DepthAhead d s lines r
moved s v h stage None lines r a =
    record { items = a.items; whole = a.whole; each = a.each; few = a.few; words = a.words }
moved s v h stage (Some d) [] r a = absurd a
moved s v h stage (Some d) (l ∷ lines) r a = (
  a.0,
  a.1,
  record {
    items = a.2.items;
    whole = a.2.whole;
    each = a.2.each;
    few = a.2.few;
    words = a.2.words;
  },
)

horizon_back : (s : State) (n : ℕ) (l : List Text) (lines : Lines) (r : Scenario)
    → IsWithin 1 (most_ticks s.version) n → IsLine (horizon_forms n) l
    → Ahead AtDepth (record s { stage = AtDepth; horizon = n }) lines r → Ahead AtHorizon s (l ∷ lines) r
horizon_back s n l lines r within line ahead =
    let same = ahead.0 in (
      same.0,
      (
        subst (λ v. IsWithin 1 (most_ticks v) r.horizon) (sym same.0)
            (subst (IsWithin 1 (most_ticks s.version)) (sym same.1) within),
        subst (λ h. IsLine (horizon_forms h) l) (sym same.1) line,
        moved s s.version n AtDepth r.depth lines r ahead.1,
      ),
    )

staged : (s : State) (v : ℕ) (stage : Stage) (lines : Lines) (r : Scenario)
    → HorizonAhead (record s { stage = stage; version = v }) lines r → HorizonAhead s lines r
staged s v stage [] r a = absurd a
staged s v stage (l ∷ lines) r a = (a.0, a.1, moved s v s.horizon stage r.depth lines r a.2)

header_back : (s : State) (v : ℕ) (l : List Text) (lines : Lines) (r : Scenario) → IsVersion v
    → IsLine (header_forms v) l → Ahead AtHorizon (record s { stage = AtHorizon; version = v }) lines r
    → Ahead AtHeader s (l ∷ lines) r
header_back s v l lines r is line ahead = (
  subst IsVersion (sym ahead.0) is,
  subst (λ n. IsLine (header_forms n) l) (sym ahead.0) line,
  staged s v AtHorizon lines r ahead.1,
)

-- a line that is not blank
pub stepped : (stage : Stage) (s s' : State) (l : List Text) → Good stage s → stage_step stage s l ≡ Ok s'
    → Stepped stage s s' l
unfolding stage_step
stepped AtHeader s s' l good e =
    let a = bind_ok (caused causes.Header (header_at l))
    (λ v. Ok (record s { stage = AtHorizon; version = v })) s' e in
    let h = header_is l a.0 (caused_ok causes.Header (header_at l) a.0 a.1) in
    carried (λ (x : State). Stepped AtHeader s x l) (record s { stage = AtHorizon; version = a.0 }) s' a.2
    (record {
      good = record { horizon = good.horizon; few = good.few; fresh = good.fresh };
      back = λ lines r ahead. header_back s a.0 l lines r h.0 h.1 ahead;
    })
stepped AtHorizon s s' l good e =
    let a = bind_ok (caused causes.Horizon (horizon_at s.version l))
    (λ n. Ok (record s { stage = AtDepth; horizon = n })) s' e in
    let h = horizon_is s.version l a.0 (caused_ok causes.Horizon (horizon_at s.version l) a.0 a.1) in
    let most = most_ticks_fit s.version in
    let within : a.0 ≤ most_ticks s.version = h.0.1 in
    carried (λ (x : State). Stepped AtHorizon s x l) (record s { stage = AtDepth; horizon = a.0 }) s' a.2
    (record {
      good = record { horizon = omega arith; few = good.few; fresh = good.fresh };
      back = λ lines r ahead. horizon_back s a.0 l lines r h.0 h.1 ahead;
    })
stepped AtDepth s s' l good e = depth_stepped s s' l good e
stepped AtItems s s' l good e =
    by_items s s' l good.horizon (item_stepped s s' l good.horizon good.few e)

-- ---- what is read is in the grammar

pub record LineStepped (s s' : State) (line : Text) : Type 0 where
  pub clean : is_clean_line line ≡ true
  pub good : Good s'.stage s'
  pub back : (lines : Lines) (r : Scenario) → Ahead s'.stage s' lines r
      → Ahead s.stage s (onto_lines (tokens_of (shown_of line)) lines) r

by_tokens : (ts : List Text) (s s' : State) → Good s.stage s → tokens_step s ts ≡ Ok s'
    → Good s'.stage s' × ((lines : Lines) (r : Scenario) → Ahead s'.stage s' lines r
    → Ahead s.stage s (onto_lines ts lines) r)
by_tokens [] s s' good e = carried (λ (x : State). Good x.stage x
    × ((lines : Lines) (r : Scenario) → Ahead x.stage x lines r → Ahead s.stage s lines r)) s s' e
    (good, λ lines r ahead. ahead)
by_tokens (t ∷ ts) s s' good e = let h = stepped s.stage s s' (t ∷ ts) good e in (h.good, h.back)

clean_ok : (b : Bool) (x : Result State Cause) (s : State) → cond b x (Err causes.Byte) ≡ Ok s
    → (b ≡ true) × (x ≡ Ok s)
clean_ok true x s e = (refl, e)
clean_ok false x s e = absurd cc

pub line_stepped : (s s' : State) (line : Text) → Good s.stage s → line_step s line ≡ Ok s'
    → LineStepped s s' line
unfolding line_step
line_stepped s s' line good e =
    let c = clean_ok (is_clean_line line) (tokens_step s (tokens_of (shown_of line))) s' e in
    let h = by_tokens (tokens_of (shown_of line)) s s' good c.1 in
    record { clean = c.0; good = h.0; back = h.1 }

pub step_ok : (n : ℕ) (x : Result State Cause) (next : State → Result Scenario Fault) (r : Scenario)
    → goes_on n x next ≡ Ok r → (s : State) × (x ≡ Ok s) × (next s ≡ Ok r)
step_ok n (Ok s) next r e = (s, refl, e)
step_ok n (Err c) next r e = absurd cc

pub none_ahead : (s : State) → length s.items ≤ 65536 → ItemsAhead s [] (read_of s)
none_ahead s few = record { items = []; whole = sym (append-nil s.items); each = tt; few = few; words = tt }

no_depth : (d : Option ℕ) (s : State) (r : Scenario) → d ≡ None → ItemsAhead s [] r → DepthAhead d s [] r
no_depth None s r e ahead = ahead
no_depth (Some d) s r e ahead = absurd cc

ended : (stage : Stage) (n : ℕ) (s : State) (r : Scenario) → Good stage s → finish_at stage n s ≡ Ok r
    → Ahead stage s [] r
ended AtHeader n s r good e = absurd cc
ended AtHorizon n s r good e = absurd cc
ended AtDepth n s r good e = subst (Ahead AtDepth s []) (read_is (read_of s) r e)
    ((refl, refl), no_depth s.depth s (read_of s) good.fresh (none_ahead s good.few))
  where
    read_is : (x y : Scenario) → finish_at AtDepth n s ≡ Ok y → read_of s ≡ y
    read_is x y e = cc
ended AtItems n s r good e = subst (Ahead AtItems s []) (read_is r e)
    ((refl, refl), refl, none_ahead s good.few)
  where
    read_is : (y : Scenario) → finish_at AtItems n s ≡ Ok y → read_of s ≡ y
    read_is y e = cc

abbrev pub AllClean : List Text → Type 0
AllClean lines = AllByRecursion (λ line. is_clean_line line ≡ true) lines

taken : (n : ℕ) (s : State) (ls : List Text) (r : Scenario) → Good s.stage s → lines_from n s ls ≡ Ok r
    → AllClean ls × Ahead s.stage s (token_lines ls) r
unfolding lines_from
taken n s [] r good e = (tt, ended s.stage n s r good e)
taken n s (l ∷ ls) r good e =
    let a = step_ok n (line_step s l) (λ x. lines_from (n + 1) x ls) r e in
    let h = line_stepped s a.0 l good a.1 in
    let more = taken (n + 1) a.0 ls r h.good a.2 in
    ((h.clean, more.0), h.back (token_lines ls) r more.1)

pub start_good : Good AtHeader start
start_good = record { horizon = omega arith; few = omega arith; fresh = refl }

-- ---- the whole of it

items_are : (lines : Lines) (r : Scenario) → ItemsAhead start lines r
    → AreItems r.version r.horizon 0 r.items × AreLines (map (item_forms r.version) r.items) lines
items_are lines r ahead =
    subst (λ (items : List Item). AreItems r.version r.horizon 0 items
    × AreLines (map (item_forms r.version) items) lines)
    (sym ahead.whole) (ahead.each, ahead.words)

record Body (d : Option ℕ) (lines : Lines) (r : Scenario) : Type 0 where
  depth : IsDepth d
  few : length r.items ≤ 65536
  each : AreItems r.version r.horizon 0 r.items
  words : AreLines (depth_lines d ++ map (item_forms r.version) r.items) lines

body_of : (d : Option ℕ) (lines : Lines) (r : Scenario) → DepthAhead d start lines r → Body d lines r
body_of None lines r a =
    let h = items_are lines r a in
    record { depth = tt; few = a.few; each = h.0; words = h.1 }
body_of (Some d) [] r a = absurd a
body_of (Some d) (l ∷ lines) r a =
    let h = items_are lines r a.2 in
    record { depth = a.0; few = a.2.few; each = h.0; words = (a.1, h.1) }

pub whole_is : (ls : List Text) (lines : Lines) (r : Scenario) → Ahead AtHeader start lines r
    → IsScenario r × AreLines (scenario_lines r) lines
whole_is ls [] r a = absurd a
whole_is ls (l ∷ []) r a = absurd a.2
whole_is ls (l ∷ m ∷ lines) r a =
    let horizon = a.2 in
    let b = body_of r.depth lines r horizon.2 in (
      record { version = a.0; horizon = horizon.0; depth = b.depth; few = b.few; items = b.each },
      (a.1, (horizon.1, b.words)),
    )

-- what is read of lines is in the grammar
pub lines_taken : (ls : List Text) (r : Scenario) → lines_from 1 start ls ≡ Ok r → AreScenarioLines ls r
lines_taken ls r e =
    let h = taken 1 start ls r start_good e in
    let w = whole_is ls (token_lines ls) r h.1 in
    record { within = w.0; clean = h.0; words = w.1 }

-- ---- what is in the grammar is read

items_ahead : (lines : Lines) (r : Scenario) → IsScenario r
    → AreLines (map (item_forms r.version) r.items) lines → ItemsAhead start lines r
items_ahead lines r is words =
    record { items = r.items; whole = refl; each = is.items; few = is.few; words = words }

depth_ahead : (d : Option ℕ) (lines : Lines) (r : Scenario) → IsScenario r → IsDepth d
    → AreLines (depth_lines d ++ map (item_forms r.version) r.items) lines → DepthAhead d start lines r
depth_ahead None lines r is depth words = items_ahead lines r is words
depth_ahead (Some d) [] r is depth words = absurd words
depth_ahead (Some d) (l ∷ lines) r is depth words = (depth, words.0, items_ahead lines r is words.1)

whole_ahead : (lines : Lines) (r : Scenario) → IsScenario r → AreLines (scenario_lines r) lines
    → Ahead AtHeader start lines r
whole_ahead [] r is words = absurd words
whole_ahead (l ∷ []) r is words = absurd words.1
whole_ahead (l ∷ m ∷ lines) r is words =
    (is.version, words.0, (is.horizon, words.1.0, depth_ahead r.depth lines r is is.depth words.1.1))

-- the state after a line, and what is still to come
pub record After (step : Result State Cause) (lines : Lines) (r : Scenario) : Type 0 where
  pub state : State
  pub taken : step ≡ Ok state
  pub good : Good state.stage state
  pub ahead : Ahead state.stage state lines r

full_false : (n m : ℕ) → n + suc m ≤ 65536 → nat_le 65536 n ≡ false
full_false n m most = lt-leb 65536 n (omega arith)

length_more : (xs ys : List Item) (x : Item) (zs : List Item) → xs ≡ ys ++ x ∷ zs → length xs ≤ 65536
    → length ys + suc (length zs) ≤ 65536
length_more xs ys x zs e most =
    let n : length xs ≡ length ys + suc (length zs) = ap length e ∙ length-append ys (x ∷ zs) in
    omega arith

item_made : (s : State) (l : List Text) (item : Item) → is_full s.items ≡ false
    → item_at s.version s.horizon s.last l ≡ Ok item → item_step s l ≡ Ok (with_item s item)
unfolding item_step
item_made s l item full e =
    ap (λ b. cond (b && begins_with (codes "at") l) (Err causes.Many)
    (item_at s.version s.horizon s.last l >>= λ i. Ok (with_item s i))) full
    ∙ ap (λ r. r >>= λ i. Ok (with_item s i)) e

pub record ItemAfter (step : Result State Cause) (s : State) (lines : Lines) (r : Scenario) : Type 0 where
  pub item : Item
  pub taken : step ≡ Ok (with_item s item)
  pub few : length (s.items ++ item ∷ []) ≤ 65536
  pub ahead : ItemsAhead (with_item s item) lines r

item_after : (s : State) (l : List Text) (lines : Lines) (r : Scenario) (items : List Item)
    → s.horizon ≤ 1000000
    → AsRead s r → r.items ≡ s.items ++ items → AreItems r.version r.horizon s.last items
    → length r.items ≤ 65536
    → AreLines (map (item_forms r.version) items) (l ∷ lines) → ItemAfter (item_step s l) s lines r
item_after s l lines r [] horizon same whole each few words = absurd words
item_after s l lines r (x ∷ xs) horizon same whole each few words =
    let fits : s.horizon < 2 ^ 64 = omega arith in
    let room = length_more r.items s.items x xs whole few in
    let command : IsCommand s.version x.command = subst (λ v. IsCommand v x.command) same.0 each.0 in
    let below : x.tick < s.horizon = subst (λ h. x.tick < h) same.1 each.2 in
    let line : IsLine (item_forms s.version x) l = subst (λ v. IsLine (item_forms v x) l) same.0 words.0 in
    let read = item_next s.version s.horizon s.last l x fits (command, each.1, below, line) in
    let n = with_item_length s x in
    record {
      item = x;
      taken = item_made s l x (full_false (length s.items) (length xs) room) read;
      few = omega arith;
      ahead = record {
        items = xs;
        whole = whole ∙ sym (append_assoc s.items (x ∷ []) xs);
        each = each.3;
        few = few;
        words = words.1;
      };
    }

depth_first : (n : ℕ) (l : List Text) → IsLine (depth_forms n) l → begins_with (codes "depth") l ≡ true
depth_first n [] is = absurd is
depth_first n (t ∷ ts) is = bytes_same t (codes "depth") is.0

at_is_no_depth : (version : ℕ) (items : List Item) (l : List Text) (lines : Lines)
    → AreLines (map (item_forms version) items) (l ∷ lines)
    → begins_with (codes "depth") l ≡ false
at_is_no_depth version [] l lines words = absurd words
at_is_no_depth version (x ∷ xs) [] lines words = absurd words.0
at_is_no_depth version (x ∷ xs) (t ∷ ts) lines words = ap (λ w. bytes_eq w (codes "depth")) words.0.0

depth_after : (d : Option ℕ) (s : State) (l : List Text) (lines : Lines) (r : Scenario) → Good AtDepth s
    → AsRead s r → r.depth ≡ d → DepthAhead d s (l ∷ lines) r → After (depth_step s l) lines r
unfolding depth_step
depth_after None s l lines r good same depth a =
    let i = item_after s l lines r a.items good.horizon same a.whole a.each a.few a.words in
    let other = at_is_no_depth r.version a.items l lines a.words in
    record {
      state = with_item s i.item;
      taken = ap (λ b. cond b (depth_at l >>= λ d. Ok (with_depth s d)) (item_step s l)) other ∙ i.taken;
      good = record { horizon = good.horizon; few = i.few; fresh = tt };
      ahead = (same, depth ∙ sym good.fresh, i.ahead);
    }
depth_after (Some d) s l lines r good same depth a =
    record {
      state = with_depth s d;
      taken = ap (λ b. cond b (depth_at l >>= λ d. Ok (with_depth s d)) (item_step s l)) (depth_first d l a.1)
          ∙ ap (λ q. q >>= λ d. Ok (with_depth s d)) (depth_next l d a.0 a.1);
      good = record { horizon = good.horizon; few = good.few; fresh = tt };
      ahead = (
        same,
        depth,
        record {
          items = a.2.items;
          whole = a.2.whole;
          each = a.2.each;
          few =
              a.2.few;
          words = a.2.words;
        },
      );
    }

moved_on : (s : State) (v h : ℕ) (stage : Stage) (d : Option ℕ) (lines : Lines) (r : Scenario)
    → DepthAhead d s lines r
    → DepthAhead d (record s { stage = stage; version = v; horizon = h }) lines r
moved_on s v h stage None lines r a =
    record { items = a.items; whole = a.whole; each = a.each; few = a.few; words = a.words }
moved_on s v h stage (Some d) [] r a = absurd a
moved_on s v h stage (Some d) (l ∷ lines) r a = (
  a.0,
  a.1,
  record {
    items = a.2.items;
    whole = a.2.whole;
    each = a.2.each;
    few = a.2.few;
    words = a.2.words;
  },
)

staged_on : (s : State) (v : ℕ) (stage : Stage) (lines : Lines) (r : Scenario) → HorizonAhead s lines r
    → HorizonAhead (record s { stage = stage; version = v }) lines r
staged_on s v stage [] r a = absurd a
staged_on s v stage (l ∷ lines) r a = (a.0, a.1, moved_on s v s.horizon stage r.depth lines r a.2)

stage_after : (stage : Stage) (s : State) (l : List Text) (lines : Lines) (r : Scenario) → Good stage s
    → Ahead stage s (l ∷ lines) r → After (stage_step stage s l) lines r
unfolding stage_step
stage_after AtHeader s l lines r good a = record {
  state = record s { stage = AtHorizon; version = r.version };
  taken = ap (λ q. caused causes.Header q >>= λ v. Ok (record s { stage = AtHorizon; version = v }))
      (header_next l r.version a.0 a.1);
  good = record { horizon = good.horizon; few = good.few; fresh = good.fresh };
  ahead = (refl, staged_on s r.version AtHorizon lines r a.2);
}
stage_after AtHorizon s l lines r good a =
    let h = a.1 in
    let most = most_ticks_fit r.version in
    let fits : r.horizon ≤ most_ticks r.version = h.0.1 in
    let within : IsWithin 1 (most_ticks s.version) r.horizon =
    subst (λ v. IsWithin 1 (most_ticks v) r.horizon) a.0 h.0 in
    record {
      state = record s { stage = AtDepth; horizon = r.horizon };
      taken = ap (λ q. caused causes.Horizon q >>= λ n. Ok (record s { stage = AtDepth; horizon = n }))
          (horizon_next s.version l r.horizon within h.1);
      good = record { horizon = omega arith; few = good.few; fresh = good.fresh };
      ahead = ((a.0, refl), moved_on s s.version r.horizon AtDepth r.depth lines r h.2);
    }
stage_after AtDepth s l lines r good a = depth_after r.depth s l lines r good a.0 refl a.1
stage_after AtItems s l lines r good a =
    let i = item_after s l lines r a.2.items good.horizon a.0 a.2.whole a.2.each a.2.few a.2.words in
    record {
      state = with_item s i.item;
      taken = i.taken;
      good = record { horizon = good.horizon; few = i.few; fresh = tt };
      ahead = (a.0, a.1, i.ahead);
    }

line_after : (ts : List Text) (s : State) (lines : Lines) (r : Scenario) → Good s.stage s
    → Ahead s.stage s (onto_lines ts lines) r → After (tokens_step s ts) lines r
line_after [] s lines r good a = record { state = s; taken = refl; good = good; ahead = a }
line_after (t ∷ ts) s lines r good a = stage_after s.stage s (t ∷ ts) lines r good a

depth_end : (d : Option ℕ) (s : State) (r : Scenario) → DepthAhead d s [] r → (d ≡ None) × ItemsAhead s [] r
depth_end None s r a = (refl, a)
depth_end (Some d) s r a = absurd a

items_end : (s : State) (r : Scenario) → ItemsAhead s [] r → r.items ≡ s.items
items_end s r a = a.whole ∙ no_more a.items a.words
  where
    no_more : (items : List Item) → AreLines (map (item_forms r.version) items) [] → s.items ++ items ≡ s.items
    no_more [] words = append-nil s.items
    no_more (x ∷ xs) words = absurd words

at_end_again : (stage : Stage) (n : ℕ) (s : State) (r : Scenario) → Good stage s → Ahead stage s [] r
    → finish_at stage n s ≡ Ok r
at_end_again AtHeader n s r good a = absurd a
at_end_again AtHorizon n s r good a = absurd a.1
at_end_again AtDepth n s r good a =
    let h = depth_end r.depth s r a.1 in
    let i = items_end s r h.1 in
    let depth : s.depth ≡ r.depth = good.fresh ∙ sym h.0 in
    fields s.version s.horizon s.depth s.items r (sym a.0.0) (sym a.0.1) depth (sym i)
  where
    fields : (v h : ℕ) (d : Option ℕ) (items : List Item) (r : Scenario) → v ≡ r.version → h ≡ r.horizon
        → d ≡ r.depth → items ≡ r.items
        → finish_at AtDepth n (record s { version = v; horizon = h; depth = d; items = items }) ≡ Ok r
    fields v h d items r u e f g = rw (u, e, f, g) refl
at_end_again AtItems n s r good a =
    fields s.version s.horizon s.depth s.items r (sym a.0.0) (sym a.0.1) (sym a.1)
    (sym (items_end s r a.2))
  where
    fields : (v h : ℕ) (d : Option ℕ) (items : List Item) (r : Scenario) → v ≡ r.version → h ≡ r.horizon
        → d ≡ r.depth → items ≡ r.items
        → finish_at AtItems n (record s { version = v; horizon = h; depth = d; items = items }) ≡ Ok r
    fields v h d items r u e f g = rw (u, e, f, g) refl

lines_again : (n : ℕ) (s : State) (ls : List Text) (r : Scenario) → Good s.stage s → AllClean ls
    → Ahead s.stage s (token_lines ls) r → lines_from n s ls ≡ Ok r
unfolding lines_from line_step
lines_again n s [] r good clean a = at_end_again s.stage n s r good a
lines_again n s (l ∷ ls) r good clean a =
    let f = line_after (tokens_of (shown_of l)) s (token_lines ls) r good a in
    let step : line_step s l ≡ Ok f.state =
    ap (λ b. cond b (tokens_step s (tokens_of (shown_of l))) (Err causes.Byte)) clean.0 ∙ f.taken in
    ap (λ q. goes_on n q (λ x. lines_from (n + 1) x ls)) step
    ∙ lines_again (n + 1) f.state ls r f.good clean.1 f.ahead

-- lines in the grammar are read
pub lines_read : (ls : List Text) (r : Scenario) → AreScenarioLines ls r → lines_from 1 start ls ≡ Ok r
lines_read ls r are =
    lines_again 1 start ls r start_good are.clean (whole_ahead (token_lines ls) r are.within are.words)

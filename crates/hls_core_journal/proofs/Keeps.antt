-- What a journal keeps while answers and ticks are noted.
use Rattle.std.proofs.Common.{◌≡◌, ℕ, zero, suc, inl, inr, ◌+◌, ◌<◌, ◌≤◌, ◌⊎◌, Bool, true, false, List, []}
use Rattle.std.proofs.Common.{◌∷◌, ◌++◌, length, take, drop, get_or, map, refl, sym, ap, ◌∙◌, subst, arith, cond}
use Rattle.std.specs.Prelude.{Option, Some, None, All, option_map, slice_get, vec_capacity, zip}
use Rattle.std.specs.List.{AllByRecursion, list_any}
use Rattle.std.specs.Str.{bytes_eq}
use Rattle.std.proofs.lemmas.List.{length-append, length-map, length-take, map-append}
use Rattle.std.proofs.lemmas.List.Elements.{All-nil, All-head, All-tail, All-push, All-weaker}
use Rattle.std.proofs.lemmas.Option.{slice_get_within}
use Rattle.indexmap.specs.IndexSet.{spare}
use Rattle.hls_text.specs.Lines.{Text}
use Rattle.hls_chron.specs.Name.{IsName}
use Rattle.hls_scenario.specs.declared.scenario.Item.{Item}
use Rattle.hls_scenario.specs.declared.scenario.Command.{Command}
use Rattle.hls_scenario.specs.declared.scenario.Command.TheVariants as said
use Rattle.hls_scenario.specs.declared.scenario.Scenario.{Scenario}
use Rattle.hls_scenario.specs.Grammar.{IsCommand}
use Rattle.hls_report_text.specs.declared.report.Answer.{Answer}
use Rattle.hls_report_text.specs.declared.report.Answer.TheVariants.{Done, Refused}
use Rattle.hls_report_text.specs.declared.report.Answered.{Answered}
use Rattle.hls_report_text.specs.declared.report.Path.{Path}
use Rattle.hls_report_text.specs.declared.report.Run.{Run}
use Rattle.hls_report_text.specs.declared.stretch.Stretch.{Stretch}
use Rattle.hls_report_text.specs.Content.{Content, stretch_of}
use Rattle.hls_report_text.specs.WellFormed.{Cover, HasShort, IsPath, MayAnswer, with_name}
use Rattle.hls_report_text.proofs.NameLaws.{Grows, grows_none, name_grows, AreIn, grown_in}
use Rattle.hls_report_text.proofs.NameLaws.{grown_names}
use Rattle.hls_legal.specs.Moment.{new_name}
use Rattle.hls_legal.specs.Grown.{with_answer, IsTickMore}
use Rattle.hls_core_journal.specs.declared.journal.Journal.{Journal}
use Rattle.hls_core_journal.specs.Told.{answered_as, answered_by, stretches_of, told}
use Rattle.hls_core_journal.specs.Ways.{names_by, last_names, IsLonger}
use Rattle.hls_core_journal.specs.Kept.{named, naming}
use Rattle.hls_core_journal.specs.Kept.{IsNew, named_by, AreWithin, IsWayOrIdle, IsNoted}
use Rattle.hls_core_journal.specs.Kept.{IsTicked, MayNote, MayTick, IsKept}
use Rattle.hls_core_journal.proofs.Lists.{HasLast, last_or_none, get_last, zip_push, all_front}
use Rattle.hls_core_journal.proofs.Covers.{WayOf, stretch, last_way, last_way_is, IsOneMore, one_new, one_longer}

-- ---- commands that give names

pub naming_next : (items : List Item) (n : ℕ) (item : Item) → slice_get items n ≡ Some item
    → naming (drop n items) ≡ named (new_name item.command) + naming (drop (n + 1) items)
naming_next [] n item there = absurd (cc)
naming_next (x ∷ items) zero item there =
    let same : x ≡ item = cc in ap (λ (i : Item). named (new_name i.command) + naming items) same
naming_next (x ∷ items) (suc n) item there =
    let next : suc n + 1 ≡ suc (n + 1) = omega arith in
    naming_next items n item there
    ∙ ap (λ k. named (new_name item.command) + naming (drop k (x ∷ items))) (sym next)

-- ---- names

pub named_grows : (answer : Answer) (name : Option Text) (names : List Text)
    → Grows names (named_by answer name names)
named_grows (Done seats) None names = grows_none names
named_grows (Done seats) (Some name) names = name_grows names name
named_grows (Refused r) name names = grows_none names

all_named : (names : List Text) (name : Text) → All IsName names → IsName name → All IsName (with_name names name)
all_named names name all is = by_test (list_any (bytes_eq name) names)
  where
    by_test : (b : Bool) → All IsName (cond b names (names ++ name ∷ []))
    by_test true = all
    by_test false = All-push IsName names name all is

with_name_few : (names : List Text) (name : Text) → length (with_name names name) ≤ length names + 1
with_name_few names name = by_test (list_any (bytes_eq name) names)
  where
    by_test : (b : Bool) → length (cond b names (names ++ name ∷ [])) ≤ length names + 1
    by_test true = omega arith
    by_test false = let e = length-append names (name ∷ []) in omega arith

named_named : (answer : Answer) (name : Option Text) (names : List Text) → All IsName names
    → ((n : Text) → name ≡ Some n → IsName n) → All IsName (named_by answer name names)
named_named (Done seats) None names all is = all
named_named (Done seats) (Some name) names all is = all_named names name all (is name refl)
named_named (Refused r) name names all is = all

named_few : (answer : Answer) (name : Option Text) (names : List Text)
    → length (named_by answer name names) ≤ length names + 1
named_few (Done seats) None names = omega arith
named_few (Done seats) (Some name) names = with_name_few names name
named_few (Refused r) name names = omega arith

command_named : (version : ℕ) (command : Command) → IsCommand version command → (n : Text) → new_name command ≡ Some n
    → IsName n
command_named version (said.Load name config perches) is n e = let same : name ≡ n = cc in subst IsName same is.0
command_named version (said.Thread name perch) is n e = let same : name ≡ n = cc in subst IsName same is.0
command_named version (said.End name) is n e = absurd (cc)
command_named version (said.Unload name) is n e = absurd (cc)
command_named version (said.Move name perch) is n e = absurd (cc)
command_named version (said.Wake name every burst) is n e = absurd (cc)
command_named version (said.Block name) is n e = absurd (cc)

-- ---- paths

pub within_of : (j : Journal) (path : Option Path) → IsWayOrIdle j path → AreWithin (length j.names.keys) path
within_of j None way = tt
within_of j (Some path) way = way.within

way_grows : (old new : Journal) (path : Option Path) → Grows old.names.keys new.names.keys → IsWayOrIdle old path
    → IsWayOrIdle new path
way_grows old new None g way = tt
way_grows old new (Some path) g way = record {
  short = way.short;
  some = way.some;
  within = grown_in old.names.keys new.names.keys (take path.len path.names) g way.within;
}

way_same : (names more : List Text) (path : Option Path) → Grows names more → AreWithin (length names) path
    → names_by more path ≡ names_by names path
way_same names more None g within = refl
way_same names more (Some path) g within =
    ap (λ (ns : List Text). Some ns) (grown_names names more (take path.len path.names) g within)

pub stretches_same : (names more : List Text) (runs : List Run) → Grows names more
    → All (λ (run : Run). AreWithin (length names) run.path) runs
    → map (stretch_of more) runs ≡ map (stretch_of names) runs
stretches_same names more [] g all = refl
stretches_same names more (run ∷ runs) g all =
    let P = λ (r : Run). AreWithin (length names) r.path in
    ap (λ (p : WayOf). stretch run.from run.to p ∷ map (stretch_of more) runs)
    (way_same names more run.path g (All-head P run runs all))
    ∙ ap (λ (ss : List Stretch). stretch_of names run ∷ ss)
    (stretches_same names more runs g (All-tail P run runs all))

-- ---- an answer

stretches_noted : (old new : Journal) → Grows old.names.keys new.names.keys → new.runs ≡ old.runs
    → All (λ (run : Run). IsWayOrIdle old run.path) old.runs.items → stretches_of new ≡ stretches_of old
stretches_noted old new g runs ways =
    ap (λ rs. map (stretch_of new.names.keys) rs.items) runs
    ∙ stretches_same old.names.keys new.names.keys old.runs.items g
    (All-weaker (λ (run : Run). IsWayOrIdle old run.path) (λ (run : Run). AreWithin (length old.names.keys) run.path)
    (λ run way. within_of old run.path way) old.runs.items ways)

pub noted_grows : (command : Command) (answer : Answer) (old new : Journal) → IsNoted command answer old new
    → Grows old.names.keys new.names.keys
noted_grows command answer old new n =
    subst (Grows old.names.keys) (sym n.names) (named_grows answer (new_name command) old.names.keys)

pub kept_note : (s : Scenario) (old new : Journal) (item : Item) (answer : Answer) → IsKept s old
    → slice_get s.items (length old.answers.items) ≡ Some item → IsCommand s.version item.command
    → MayAnswer item.command answer → IsNoted item.command answer old new → IsKept s new
kept_note s old new item answer kept there is fits n =
    let g = noted_grows item.command answer old new n in
    let lt : length old.answers.items < length s.items = slice_get_within s.items _ item there in
    let count : length new.answers.items ≡ length old.answers.items + 1 =
    ap (λ (xs : List Answer). length xs) n.answers ∙ length-append old.answers.items (answer ∷ []) in
    let few = named_few answer (new_name item.command) old.names.keys in
    let keys : length new.names.keys ≡ length (named_by answer (new_name item.command) old.names.keys) =
    ap (λ (xs : List Text). length xs) n.names in
    record {
      within = subst (λ t. t ≤ s.horizon) (sym n.ticks) kept.within;
      few = omega (arith, lt, count);
      fit =
          subst (λ (xs : List Answer). All (λ (p : Item × Answer). MayAnswer p.0.command p.1) (zip s.items xs))
          (sym n.answers)
          (subst (All (λ (p : Item × Answer). MayAnswer p.0.command p.1))
          (sym (zip_push s.items old.answers.items item answer there))
          (All-push (λ (p : Item × Answer). MayAnswer p.0.command p.1) (zip s.items old.answers.items) (item, answer)
          kept.fit fits));
      named =
          subst (All IsName) (sym n.names)
          (named_named answer (new_name item.command) old.names.keys kept.named
          (command_named s.version item.command is));
      fewer = let fewer = kept.fewer in omega (arith, few, keys, count, fewer);
      cover =
          subst (λ t. Cover 0 None (stretches_of new) t) (sym n.ticks)
          (subst (λ (ss : List Stretch). Cover 0 None ss old.ticks) (sym (stretches_noted old new g n.runs kept.ways))
          kept.cover);
      ways =
          subst (λ rs. All (λ (run : Run). IsWayOrIdle new run.path) rs.items) (sym n.runs)
          (All-weaker (λ (run : Run). IsWayOrIdle old run.path) (λ (run : Run). IsWayOrIdle new run.path)
          (λ run way. way_grows old new run.path g way) old.runs.items kept.ways);
      count =
          subst (λ t. length new.runs.items ≤ t) (sym n.ticks)
          (subst (λ rs. length rs.items ≤ old.ticks) (sym n.runs) kept.count);
      answers_room = subst (λ c. length s.items ≤ c) (sym n.answers_room) kept.answers_room;
      names_room =
          (let rest = naming_next s.items (length old.answers.items) item there in
          let room = kept.names_room in
          let spared = n.names_room in
          let same = ap (λ k. naming (drop k s.items)) count in omega (arith, rest, room, spared, same));
      runs_room = subst (λ rs. s.horizon ≤ rs.capacity) (sym n.runs) kept.runs_room;
    }

abbrev content : (version depth ticks : ℕ) → List Answered → List Stretch → Content
content version depth ticks answered stretches = record {
  version = version;
  horizon = ticks;
  depth = depth;
  answered = answered;
  stretches = stretches;
  accounts = [];
  idle = 0;
}

pub answered_push : (items : List Item) (answers : List Answer) (item : Item) (answer : Answer)
    → slice_get items (length answers) ≡ Some item
    → answered_by items (answers ++ answer ∷ []) ≡ answered_by items answers ++ answered_as item answer ∷ []
answered_push items answers item answer there =
    ap (map (λ (p : Item × Answer). answered_as p.0 p.1)) (zip_push items answers item answer there)
    ∙ map-append (λ (p : Item × Answer). answered_as p.0 p.1) (zip items answers) ((item, answer) ∷ [])

pub told_note : (s : Scenario) (depth : ℕ) (old new : Journal) (item : Item) (answer : Answer) → IsKept s old
    → slice_get s.items (length old.answers.items) ≡ Some item → IsNoted item.command answer old new
    → told s.version s.items depth new ≡ with_answer (told s.version s.items depth old) (answered_as item answer)
told_note s depth old new item answer kept there n =
    let g = noted_grows item.command answer old new n in
    ap (λ t. content s.version depth t (answered_by s.items new.answers.items) (stretches_of new)) n.ticks
    ∙ ap (λ (xs : List Answer). content s.version depth old.ticks (answered_by s.items xs) (stretches_of new)) n.answers
    ∙ ap (λ (all : List Answered). content s.version depth old.ticks all (stretches_of new))
    (answered_push s.items old.answers.items item answer there)
    ∙ ap (content s.version depth old.ticks (answered_by s.items old.answers.items ++ answered_as item answer ∷ []))
    (stretches_noted old new g n.runs kept.ways)

-- ---- a tick

places_named : (names : List Text) (places : List ℕ) → All IsName names → AreIn names places
    → AllByRecursion IsName (map (λ place. get_or names place []) places)
places_named names [] all within = tt
places_named names (place ∷ places) all within = (all place [] within.0, places_named names places all within.1)

way_is_path : (j : Journal) (path : Option Path) → All IsName j.names.keys → IsWayOrIdle j path
    → IsPath (names_by j.names.keys path)
way_is_path j None all way = tt
way_is_path j (Some path) all way =
    let count = length-map (take path.len path.names) (λ place. get_or j.names.keys place []) in
    let few = length-take path.len path.names in
    let some = way.some in
    let short = way.short in (
      (omega (arith, count, some), omega (arith, count, few, short)),
      places_named j.names.keys (take path.len path.names) all way.within,
    )

pub last_names_is : (names : List Text) (runs front : List Run) (run : Run) → runs ≡ front ++ run ∷ []
    → last_names names runs ≡ Some (names_by names run.path)
last_names_is names runs front run e =
    ap (last_names names) e
    ∙ ap (λ (r : Option Run). option_map (λ (run : Run). names_by names run.path) r) (get_last front run)

last_way_runs : (names : List Text) (runs : List Run) (path : WayOf)
    → last_way None (map (stretch_of names) runs) ≡ Some path → last_names names runs ≡ Some path
last_way_runs names runs path e = by (last_or_none runs)
  where
    by : (runs ≡ []) ⊎ HasLast runs → last_names names runs ≡ Some path
    by (inl none) =
        let way : last_way None (map (stretch_of names) runs) ≡ None =
        ap (λ (rs : List Run). last_way None (map (stretch_of names) rs)) none in absurd (cc)
    by (inr l) =
        let way : last_way None (map (stretch_of names) runs) ≡ Some (names_by names l.last.path) =
        ap (λ (rs : List Run). last_way None (map (stretch_of names) rs)) l.is
        ∙ ap (last_way None) (map-append (stretch_of names) l.front (l.last ∷ []))
        ∙ last_way_is None (map (stretch_of names) l.front) (stretch_of names l.last) in
        last_names_is names runs l.front l.last l.is ∙ sym way ∙ e

runs_named : (old new : Journal) → new.names ≡ old.names
    → stretches_of new ≡ map (stretch_of old.names.keys) new.runs.items
runs_named old new same = ap (λ ns. map (stretch_of ns.keys) new.runs.items) same

one_more : (s : Scenario) (old new : Journal) (path : Option Path) → IsKept s old → IsWayOrIdle old path
    → new.names ≡ old.names → IsLonger old.names.keys old.ticks path old.runs.items new.runs.items
    → IsOneMore (stretches_of old) (stretches_of new) old.ticks (names_by old.names.keys path)
one_more s old new path kept way same (inl g) =
    let f = stretch_of old.names.keys in
    let names = names_by old.names.keys g.run.path in
    let before : stretches_of old ≡ map f g.front ++ f g.run ∷ [] =
    ap (map f) g.last ∙ map-append f g.front (g.run ∷ []) in
    let after : stretches_of new ≡ map f g.front ++ stretch g.run.from old.ticks names ∷ [] =
    runs_named old new same ∙ ap (map f) g.longer
    ∙ map-append f g.front ((record g.run { to = old.ticks }) ∷ []) in
    subst (IsOneMore (stretches_of old) (stretches_of new) old.ticks) g.same
    (subst (λ (ss : List Stretch). IsOneMore (stretches_of old) ss old.ticks names) (sym after)
    (subst (λ (ss : List Stretch). IsOneMore ss (map f g.front ++ stretch g.run.from old.ticks names ∷ [])
    old.ticks names)
    (sym before)
    (one_longer (map f g.front) (f g.run) old.ticks
    (subst (λ (ss : List Stretch). Cover 0 None ss old.ticks) before kept.cover))))
one_more s old new path kept way same (inr b) =
    let f = stretch_of old.names.keys in
    let names = names_by old.names.keys path in
    let after : stretches_of new ≡ stretches_of old ++ stretch old.ticks old.ticks names ∷ [] =
    runs_named old new same ∙ ap (map f) b.longer
    ∙ map-append f old.runs.items ((record { from = old.ticks; to = old.ticks; path = path }) ∷ []) in
    subst (λ (ss : List Stretch). IsOneMore (stretches_of old) ss old.ticks names) (sym after)
    (one_new (stretches_of old) old.ticks names kept.cover (way_is_path old path kept.named way)
    (λ e. b.other (last_way_runs old.names.keys old.runs.items names e)))

pub told_tick : (s : Scenario) (depth : ℕ) (old new : Journal) (path : Option Path) → IsKept s old
    → IsWayOrIdle old path → IsTicked path old new
    → IsTickMore (told s.version s.items depth old) (told s.version s.items depth new) (names_by old.names.keys path)
told_tick s depth old new path kept way t =
    let more = one_more s old new path kept way t.names t.runs in
    record {
      horizon = t.ticks;
      answered = ap (λ answers. answered_by s.items answers.items) t.answers;
      before = more.before;
      path = more.present;
    }

ways_longer : (old : Journal) (path : Option Path) (runs : List Run)
    → All (λ (run : Run). IsWayOrIdle old run.path) old.runs.items → IsWayOrIdle old path
    → IsLonger old.names.keys old.ticks path old.runs.items runs → All (λ (run : Run). IsWayOrIdle old run.path) runs
ways_longer old path runs all way (inl g) =
    let P = λ (run : Run). IsWayOrIdle old run.path in
    let parts = all_front P g.front g.run (subst (All P) g.last all) in
    subst (All P) (sym g.longer) (All-push P g.front (record g.run { to = old.ticks }) parts.0 parts.1)
ways_longer old path runs all way (inr b) =
    let P = λ (run : Run). IsWayOrIdle old run.path in
    subst (All P) (sym b.longer)
    (All-push P old.runs.items (record { from = old.ticks; to = old.ticks; path = path }) all way)

few_longer : (names : List Text) (now : ℕ) (path : Option Path) (old new : List Run)
    → IsLonger names now path old new → length new ≤ length old + 1
few_longer names now path old new (inl g) =
    let before = ap (λ (rs : List Run). length rs) g.last ∙ length-append g.front (g.run ∷ []) in
    let after = ap (λ (rs : List Run). length rs) g.longer
    ∙ length-append g.front ((record g.run { to = now }) ∷ []) in omega (arith, before, after)
few_longer names now path old new (inr b) =
    let after = ap (λ (rs : List Run). length rs) b.longer
    ∙ length-append old ((record { from = now; to = now; path = path }) ∷ []) in omega (arith, after)

pub kept_tick : (s : Scenario) (old new : Journal) (path : Option Path) → IsKept s old → old.ticks < s.horizon
    → IsWayOrIdle old path → IsTicked path old new → IsKept s new
kept_tick s old new path kept lt way t =
    let g : Grows old.names.keys new.names.keys =
    subst (λ ns. Grows old.names.keys ns.keys) (sym t.names) (grows_none old.names.keys) in
    record {
      within = let ticks = t.ticks in omega (arith, ticks, lt);
      few = subst (λ answers. length answers.items ≤ length s.items) (sym t.answers) kept.few;
      fit =
          subst
          (λ answers. All (λ (p : Item × Answer). MayAnswer p.0.command p.1) (zip s.items answers.items))
          (sym t.answers) kept.fit;
      named = subst (λ ns. All IsName ns.keys) (sym t.names) kept.named;
      fewer =
          subst (λ answers. length new.names.keys ≤ length answers.items) (sym t.answers)
          (subst (λ ns. length ns.keys ≤ length old.answers.items) (sym t.names) kept.fewer);
      cover =
          subst (λ n. Cover 0 None (stretches_of new) n) (sym t.ticks)
          (one_more s old new path kept way t.names t.runs).cover;
      ways =
          All-weaker (λ (run : Run). IsWayOrIdle old run.path) (λ (run : Run). IsWayOrIdle new run.path)
          (λ run way. way_grows old new run.path g way) new.runs.items
          (ways_longer old path new.runs.items kept.ways way t.runs);
      count =
          let few = few_longer old.names.keys old.ticks path old.runs.items new.runs.items t.runs in
          let ticks = t.ticks in
          let count = kept.count in omega (arith, few, ticks, count);
      answers_room = subst (λ answers. length s.items ≤ vec_capacity answers) (sym t.answers) kept.answers_room;
      names_room =
          subst (λ answers. naming (drop (length answers.items) s.items) ≤ spare new.names) (sym t.answers)
          (subst (λ ns. naming (drop (length old.answers.items) s.items) ≤ spare ns) (sym t.names) kept.names_room);
      runs_room = subst (λ c. s.horizon ≤ c) (sym t.room) kept.runs_room;
    }

-- ---- what calls ask for

pub way_short : (j : Journal) (path : Option Path) → IsWayOrIdle j path → HasShort path
way_short j None way = tt
way_short j (Some path) way = way.short

pub may_note : (s : Scenario) (j : Journal) (item : Item) → IsKept s j
    → slice_get s.items (length j.answers.items) ≡ Some item → MayNote item.command j
may_note s j item kept there = record {
  answers =
      (let room = kept.answers_room in
      let lt = slice_get_within s.items (length j.answers.items) item there in omega (arith, room, lt));
  names =
      (let rest = naming_next s.items (length j.answers.items) item there in
      let room = kept.names_room in omega (arith, rest, room));
}

pub may_tick : (s : Scenario) (j : Journal) → IsKept s j → s.horizon ≤ 1000000 → j.ticks < s.horizon → MayTick j
may_tick s j kept few lt = record {
  short =
      All-weaker (λ (run : Run). IsWayOrIdle j run.path) (λ (run : Run). HasShort run.path)
      (λ run way. way_short j run.path way) j.runs.items kept.ways;
  room = let room = kept.runs_room in let count = kept.count in omega (arith, room, count, lt);
  more = omega (arith, few, lt);
}

pub kept_new : (s : Scenario) (j : Journal) → IsNew s.items s.horizon j → IsKept s j
kept_new s j new =
    let none : length j.answers.items ≡ 0 = ap (λ (xs : List Answer). length xs) new.answers in
    let unnamed : length j.names.keys ≡ 0 = ap (λ (xs : List Text). length xs) new.names in
    let idle : length j.runs.items ≡ 0 = ap (λ (xs : List Run). length xs) new.runs in
    record {
      within = let now = new.ticks in omega (arith, now);
      few = omega (arith, none);
      fit =
          subst (λ (xs : List Answer). All (λ (p : Item × Answer). MayAnswer p.0.command p.1) (zip s.items xs))
          (sym new.answers) (zip_none s.items);
      named = subst (All IsName) (sym new.names) (All-nil IsName);
      fewer = omega (arith, none, unnamed);
      cover =
          subst (λ (rs : List Run). Cover 0 None (map (stretch_of j.names.keys) rs) j.ticks) (sym new.runs)
          (sym new.ticks);
      ways =
          subst (All (λ (run : Run). IsWayOrIdle j run.path)) (sym new.runs)
          (All-nil (λ (run : Run). IsWayOrIdle j run.path));
      count = omega (arith, idle);
      answers_room = new.answers_room;
      names_room =
          (let room = new.names_room in
          let same = ap (λ (xs : List Answer). naming (drop (length xs) s.items)) new.answers in
          omega (arith, room, same));
      runs_room = new.runs_room;
    }
  where
    zip_none : (items : List Item) → All (λ (p : Item × Answer). MayAnswer p.0.command p.1) (zip items [])
    zip_none [] = All-nil (λ (p : Item × Answer). MayAnswer p.0.command p.1)
    zip_none (item ∷ items) = All-nil (λ (p : Item × Answer). MayAnswer p.0.command p.1)

-- Ticks of nodes of which some are behind.
use Rattle.std.proofs.Common.{◌≡◌, ◌≢◌, ℕ, ◌+◌, ◌-◌, ◌*◌, ◌%◌, ◌^◌, ◌<◌, ◌≤◌, ◌⊎◌, inl, inr, Bool, true, false}
use Rattle.std.proofs.Common.{List, length, Option, Some, None, refl, sym, ap, ◌∙◌, subst, arith, slice_get, w64, ◌==◌}
use Rattle.std.specs.Int.{bit_at, bit_not, trailing_zeros}
use Rattle.std.specs.Prelude.{bit_and, is_some, IsSome}
use Rattle.std.proofs.lemmas.Bool.{cases_eq, cases_lt, cases_Bool, ne_eqb}
use Rattle.std.proofs.lemmas.Option.{slice_get_within}
use Rattle.std.proofs.lemmas.Nat.Bits.{bit_at-zero, bit_at-lt, bit_at_and, bit_at_not, bit_at_above, bit_at_clear_same}
use Rattle.std.specs.declared.dyn_box.DynBox.{DynBox}
use Rattle.std.specs.declared.alloc.Global.{Global}
use Rattle.slab.specs.Slab.{Slab, get, with_value}
use Rattle.slab.proofs.SlabLemmas.{Updates-with_value}
use Rattle.hls_chron.specs.Ledger.{Ledger, with_rows}
use Rattle.hls_kinds.specs.Stands.{always}
use Rattle.hls_sched.specs.Seen.{Seen, config_of, tick_row}
use Rattle.hls_sched.specs.Stands.{Stands, seen_stands}
use Rattle.hls_tree_nodes.specs.Shown.{Post, What, Scheduler, Shown, PostedIn, PostedWhat, RoomIn, RoomBare, on_what}
use Rattle.hls_tree_nodes.specs.Shown.{on_post, post_turned, bare_what, is_sched, is_sched_what, asks_in}
use Rattle.hls_tree_nodes.specs.Shown as shown
use Rattle.hls_tree_nodes.specs.Leapt.{post_leapt, stands_in, StandsIn, StandsLate}
use Rattle.hls_tree_nodes.specs.Views.{shown as shown_node, shown_opt, post_of, stored_at, shown_at, choice_opt}
use Rattle.hls_tree_nodes.specs.Views.{choice_at}
use Rattle.hls_tree_nodes.specs.TreeOf.{IsRoll, IsOn, IsFrom}
use Rattle.hls_tree_nodes.specs.Known.{has_bit}
use Rattle.hls_tree_nodes.specs.Late.{IsLate, IsQuiet, AreQuiet, AreBehind, IsSameClock}
use Rattle.hls_tree_nodes.specs.declared.known.Known.{Known}
use Rattle.hls_tree_nodes.specs.declared.node.Node.{Node}
use Rattle.hls_tree_nodes.specs.declared.node.Role.TheVariants.{Sched}
use Rattle.hls_tree_nodes.specs.declared.nodes.Nodes.{Nodes}
use Rattle.hls_tree_nodes.specs.declared.station.Station.{Station}
use Rattle.hls_tree_nodes.specs.declared.station.Lag.{Lag}
use Rattle.hls_tree_nodes.specs.Behind.{late_book, late_post, late_what, late, LagsRight, LagsWhat, LagsIn}
use Rattle.hls_tree_nodes.specs.Behind.{lag_place, place_what, behind_at, HasElapsed, with_lag, IsIdleWhat, IsNoted}
use Rattle.hls_tree_nodes.proofs.Behind.{late_flat, late_up, late_sched, leapt_add, asks_idle}
use Rattle.hls_tree_nodes.proofs.Idle.{idle_stands}
use Rattle.hls_tree_passes.proofs.Lasting.{idle_serves, late_lawful}
use Rattle.hls_tree_passes.proofs.Leaps.{nodes-none, nodes-more}
use Rattle.hls_tree_passes.proofs.Levels.{least_on, next_others, next_fewer}
use Rattle.hls_tree_passes.proofs.Tells.{entry_at}
use Rattle.hls_tree_nodes.proofs.Walks.{Before, before_cases}

-- ---- who was behind already

lag_books : (unit : Seen) (choice : Option ℕ) (since tick ticks : ℕ) → unit.grant ≡ None → since ≤ tick
    → with_rows unit.book (tick_row unit.mask None None) (tick + ticks - since)
    ≡ with_rows (with_rows unit.book (tick_row unit.mask None None) (tick - since))
    (tick_row unit.mask unit.grant choice) ticks
lag_books unit choice since tick ticks free le =
    let sum : tick + ticks - since ≡ (tick - since) + ticks = omega (arith, le) in
    ap (λ n. with_rows unit.book (tick_row unit.mask None None) n) sum
    ∙ sym (ap (λ (s : Seen). s.book) (leapt_add None (tick - since) ticks (record unit { grant = None })))
    ∙ ap (λ grant. with_rows (with_rows unit.book (tick_row unit.mask None None) (tick - since))
    (tick_row unit.mask grant choice) ticks) (sym free)

lag_post : (ticks tick : ℕ) (choice : Option ℕ) (lag : Option Lag) (post : Post) → post.lag ≡ lag
    → LagsRight tick lag post → lag ≢ None
    → late_post true (tick + ticks) post ≡ post_leapt ticks choice (late_post true tick post)
lag_post ticks tick choice None post is may some = absurd (some refl)
lag_post ticks tick choice (Some lag) post is may some =
    ap (λ l. record post {
      unit = record post.unit { book = late_book true (tick + ticks) l post.unit };
      lag = None;
    }) is
    ∙ ap (λ (b : Ledger). record post { unit = record post.unit { book = b }; lag = None })
    (lag_books post.unit choice lag.since tick ticks may.free may.since)
    ∙ ap (λ l. post_leapt ticks choice (record post {
      unit = record post.unit { book = late_book true tick l post.unit };
      lag = None;
    })) (sym is)

more_room : (ticks tick : ℕ) (lag : Option Lag) (post : Post) → 0 < ticks → LagsRight tick lag post
    → ticks ≤ (late_book true tick lag post.unit).spare_ticks → LagsRight (tick + ticks) lag post
more_room ticks tick None post some may room = tt
more_room ticks tick (Some lag) post some may room =
    let since = may.since in
    record {
      since = omega (arith, since);
      within = may.within;
      posted = may.posted;
      idle = may.idle;
      free = may.free;
      lawful = may.lawful;
      room = omega (arith, since, room, some);
    }

pub lagging : (ticks tick : ℕ) (choice : Option ℕ) (o : Option Shown) → 0 < ticks → LagsIn tick o → behind_at o ≢ None
    → RoomIn ticks (late true tick o) → HasElapsed ticks true tick choice o o
lagging ticks tick choice None some may there room = absurd (there refl)
lagging ticks tick choice (Some s) some may there room = by_what s.what may there room where
  by_what : (w : What) → LagsWhat tick w → place_what w ≢ None
      → RoomBare ticks (Some (bare_what s.name s.seats (late_what true tick w)))
      → HasElapsed ticks true tick choice (Some (record s { what = w })) (Some (record s { what = w }))
  by_what (Scheduler post) lags at fits = record {
    is = ap (λ (p : Post). Some (record s { what = Scheduler p }))
        (lag_post ticks tick choice post.lag post refl lags (λ none. at (ap lag_place none)));
    lags = λ on. more_room ticks tick post.lag post some lags fits;
  }
  by_what (shown.Thread ready) lags at fits = absurd (at refl)

pub lagged : (ticks tick : ℕ) (behind : Bool) (choice : Option ℕ) (lag : Option Lag) (old new : Option Shown)
    → behind ≡ true → 0 < ticks → (behind ≡ true → LagsIn tick old) → behind_at old ≡ lag_place lag
    → is_some lag ≡ true → RoomIn ticks (late behind tick old) → new ≡ old
    → HasElapsed ticks behind tick choice old new
lagged ticks tick false choice lag old new on some may place there room same = absurd cc
lagged ticks tick true choice None old new on some may place there room same = absurd cc
lagged ticks tick true choice (Some lag) old new on some may place there room same =
    subst (HasElapsed ticks true tick choice old) (sym same) (lagging ticks tick choice old some (may refl)
    (λ none. let clash : Some lag.at ≡ None = sym place ∙ none in cc) room)

-- a node that is written back as it was
pub rewritten : {V : Type 0} {P : V → Type 0} (show : DynBox V Global P → Seen) (slab : Slab (Node V P)) (key : ℕ)
    (node : Node V P) (station : Station V P) → get slab key ≡ Some node → node.role ≡ Sched station
    → stored_at show (with_value slab key (record node { role = Sched station })) key ≡ stored_at show slab key
rewritten show slab key node station is role =
    ap (shown_opt show) (Updates-with_value slab key (record node { role = Sched station })
    (subst IsSome (sym is) refl)).changed
    ∙ ap (λ r. Some (shown_node show (record node { role = r }))) (sym role) ∙ ap (shown_opt show) (sym is)

-- ---- who is behind from now on

noted_post : (ticks tick : ℕ) (choice : Option ℕ) (lag : Lag) (post : Post) → post.lag ≡ None → post.unit.grant ≡ None
    → lag.since ≡ tick
    → late_post true (tick + ticks) (with_lag lag post) ≡ post_leapt ticks choice (late_post true tick post)
noted_post ticks tick choice lag post up free now =
    let sum : tick + ticks - lag.since ≡ ticks = omega (arith, now) in
    ap (λ n. record post {
      unit = record post.unit { book = with_rows post.unit.book (tick_row post.unit.mask None None) n };
      lag = None;
    }) sum
    ∙ ap (λ grant. record post {
      unit = record post.unit { book = with_rows post.unit.book (tick_row post.unit.mask grant choice) ticks };
      lag = None;
    }) (sym free)
    ∙ ap (λ l. post_leapt ticks choice (record post {
      unit = record post.unit { book = late_book true tick l post.unit };
      lag = None;
    })) (sym up)

pub noting : (ticks tick : ℕ) (choice : Option ℕ) (lag : Lag) (told : Bool) (old new : Option Shown) → lag.since ≡ tick
    → lag.at < 64 → PostedIn old → RoomIn ticks (late true tick old) → IsNoted lag told old new
    → HasElapsed ticks true tick choice old new
noting ticks tick choice lag told None new now near posted room x = absurd x.idle
noting ticks tick choice lag told (Some s) new now near posted room x =
    subst (HasElapsed ticks true tick choice (Some s)) (sym x.noted) (by_what s.what posted room x.idle)
  where
    by_what : (w : What) → PostedWhat w
        → RoomBare ticks (Some (bare_what s.name s.seats (late_what true tick w)))
        → IsIdleWhat w
        → HasElapsed ticks true tick choice (Some (record s { what = w }))
        (Some (record s { what = on_what (with_lag lag) w }))
    by_what (Scheduler post) right fits idle = record {
      is = ap (λ (p : Post). Some (record s { what = Scheduler p }))
          (noted_post ticks tick choice lag post idle.2 idle.1 now);
      lags = λ on. record {
        since = omega (arith, now);
        within = near;
        posted = record {
          configured = right.configured;
          mask = right.mask;
          granted = right.granted;
          ranges = right.ranges;
          config = right.config;
          only = right.only;
        };
        idle = idle.0;
        free = idle.1;
        lawful = idle.3;
        room = let fits_so : ticks ≤ post.unit.book.spare_ticks =
            subst (λ l. ticks ≤ (late_book true tick l post.unit).spare_ticks) idle.2 fits in
            omega (arith, now, fits_so);
      };
    }
    by_what (shown.Thread ready) right fits idle = absurd idle

-- ---- who is not behind

leapt_place : (ticks : ℕ) (choice : Option ℕ) (o : Option Shown)
    → behind_at (on_post (post_leapt ticks choice) o) ≡ behind_at o
leapt_place ticks choice None = refl
leapt_place ticks choice (Some s) = by_what s.what where
  by_what : (w : What) → place_what (on_what (post_leapt ticks choice) w) ≡ place_what w
  by_what (Scheduler post) = refl
  by_what (shown.Thread ready) = refl

pub lags_up : (t : ℕ) (o : Option Shown) → behind_at o ≡ None → LagsIn t o
lags_up t None up = tt
lags_up t (Some s) up = by_what s.what up where
  by_lag : (lag : Option Lag) (post : Post) → lag_place lag ≡ None → LagsRight t lag post
  by_lag None post none = tt
  by_lag (Some lag) post none = absurd cc

  by_what : (w : What) → place_what w ≡ None → LagsWhat t w
  by_what (Scheduler post) none = by_lag post.lag post none
  by_what (shown.Thread ready) none = tt

pub elapsing : (ticks tick : ℕ) (behind : Bool) (choice : Option ℕ) (old new : Option Shown)
    → (behind ≡ true → behind_at old ≡ None) → new ≡ on_post (post_leapt ticks choice) old
    → HasElapsed ticks behind tick choice old new
elapsing ticks tick false choice old new up is = record {
  is = late_flat (tick + ticks) new ∙ is ∙ sym (ap (on_post (post_leapt ticks choice)) (late_flat tick old));
  lags = λ on. absurd cc;
}
elapsing ticks tick true choice old new up is =
    let at : behind_at new ≡ None = ap behind_at is ∙ leapt_place ticks choice old ∙ up refl in
    record {
      is = late_up true (tick + ticks) new at ∙ is
          ∙ sym (ap (on_post (post_leapt ticks choice)) (late_up true tick old (up refl)));
      lags = λ on. lags_up (tick + ticks) new at;
    }

-- ---- who is no scheduler

pub silent : (ticks tick : ℕ) (behind : Bool) (choice : Option ℕ) (o : Option Shown) → is_sched o ≢ true
    → HasElapsed ticks behind tick choice o o
silent ticks tick behind choice None not = record { is = refl; lags = λ on. tt }
silent ticks tick behind choice (Some s) not = by_what s.what not where
  by_what : (w : What) → is_sched_what w ≢ true
      → HasElapsed ticks behind tick choice (Some (record s { what = w })) (Some (record s { what = w }))
  by_what (Scheduler post) off = absurd (off refl)
  by_what (shown.Thread ready) off = record { is = refl; lags = λ on. tt }

-- ---- for how long they stand

idle_law : (n : ℕ) (choice : Option ℕ) (t : ℕ) (lag : Option Lag) (post : Post) → LagsRight t lag post → lag ≢ None
    → StandsLate n choice (record post.unit { book = late_book true t lag post.unit })
idle_law n choice t None post may some = absurd (some refl)
idle_law n choice t (Some lag) post may some =
    let behind : Seen = record post.unit { book = late_book true t (Some lag) post.unit } in
    record {
      asks = λ k lt. asks_idle (config_of post.unit) behind.book _ k post.unit.mask may.idle;
      serves = λ granted. absurd (granted may.free);
      stays = λ serves k lt. idle_serves choice behind k may.idle may.free
          (late_lawful t lag post may.lawful) serves;
    }

-- who is behind stands always
pub behind_stands : (choice : Option ℕ) (t : ℕ) (o : Option Shown) → LagsIn t o → behind_at o ≢ None
    → stands_in choice (late true t o) ≡ always
behind_stands choice t None may there = absurd (there refl)
behind_stands choice t (Some s) may there = by_what s.what may there where
  by_lag : (lag : Option Lag) (post : Post) → LagsRight t lag post → lag ≢ None
      → seen_stands choice (record post.unit { book = late_book true t lag post.unit }) ≡ always
  by_lag None post right some = absurd (some refl)
  by_lag (Some lag) post right some =
      idle_stands choice (record post.unit { book = late_book true t (Some lag) post.unit }) right.idle right.free

  by_what : (w : What) → LagsWhat t w → place_what w ≢ None
      → stands_in choice (late true t (Some (record s { what = w }))) ≡ always
  by_what (Scheduler post) lags at = by_lag post.lag post lags (λ none. at (ap lag_place none))
  by_what (shown.Thread ready) lags at = absurd (at refl)

pub behind_law : (n : ℕ) (choice : Option ℕ) (t : ℕ) (o : Option Shown) → LagsIn t o → behind_at o ≢ None
    → StandsIn n choice (late true t o)
behind_law n choice t None may there = absurd (there refl)
behind_law n choice t (Some s) may there = by_what s.what may there where
  by_what : (w : What) → LagsWhat t w → place_what w ≢ None
      → StandsIn n choice (late true t (Some (record s { what = w })))
  by_what (Scheduler post) lags at = idle_law n choice t post.lag post lags (λ none. at (ap lag_place none))
  by_what (shown.Thread ready) lags at = absurd (at refl)

stored_law : (n : ℕ) (choice : Option ℕ) (s : Seen) → Stands n choice s → StandsLate n choice s
stored_law n choice s stands = record {
  asks = stands.asks;
  stays = λ now. stands.serves;
  serves = λ granted. stands.serves;
}

post_law : (n : ℕ) (choice : Option ℕ) (t : ℕ) (behind : Bool) (post : Post)
    → (behind ≡ true → LagsRight t post.lag post) → (behind ≡ false → Stands n choice post.unit)
    → (post.lag ≡ None → Stands n choice post.unit) → StandsLate n choice (late_post behind t post).unit
post_law n choice t false post may flat up = stored_law n choice post.unit (flat refl)
post_law n choice t true post may flat up = by_lag post.lag refl (may refl) where
  by_lag : (lag : Option Lag) → post.lag ≡ lag → LagsRight t lag post
      → StandsLate n choice (record post.unit { book = late_book true t lag post.unit })
  by_lag None is right = stored_law n choice post.unit (up is)
  by_lag (Some lag) is right = idle_law n choice t (Some lag) post right (λ none. let no : Some lag ≡ None = none in cc)

-- a node that is a scheduler, behind or not
pub node_law : {V : Type 0} {P : V → Type 0} (show : DynBox V Global P → Seen) (choice : DynBox V Global P → Option ℕ)
    (n : ℕ) (nodes : Nodes V P) (k : ℕ) (node : Node V P) (station : Station V P) → IsLate show nodes
    → get nodes.slab k ≡ Some node → node.role ≡ Sched station
    → (nodes.behind ≡ false → Stands n (choice station.unit) (show station.unit))
    → (station.lag ≡ None → Stands n (choice station.unit) (show station.unit))
    → StandsIn n (choice_at choice nodes k) (shown_at show nodes k)
node_law {V} {P} show choice n nodes k node station late_so at role flat up =
    subst
    (λ (o : Option (Node V P)). StandsIn n (choice_opt choice o) (late nodes.behind nodes.tick (shown_opt show o)))
    (sym here)
    (post_law n (choice station.unit) nodes.tick nodes.behind (post_of show station)
    (λ on. subst (λ (o : Option (Node V P)). LagsIn nodes.tick (shown_opt show o)) here (late_so.lags on k)) flat up)
  where
    here : get nodes.slab k ≡ Some (record node { role = Sched station })
    here = at ∙ ap (λ r. Some (record node { role = r })) role

-- ---- bits

pub bit_has : (bits at : ℕ) → bit_at bits at ≡ 1 → has_bit bits at ≡ true
bit_has bits at on = ap (λ n. n == 1) on

pub has_one : (bits at : ℕ) → has_bit bits at ≡ true → bit_at bits at ≡ 1
has_one bits at has = elim (cases_eq (bit_at bits at) 1) [
  | inl e ↦ e
  | inr ne ↦ absurd (let off : has_bit bits at ≡ false = ne_eqb (bit_at bits at) 1 ne in
      let clash : true ≡ false = sym has ∙ off in cc)
]

-- those of some places that are not quiet
module _ (places quiet : ℕ) (fits : places < 2 ^ 64) (small : quiet < 2 ^ 64) where
  pub left_place : (at : ℕ) → bit_at (bit_and places (bit_not w64 quiet)) at ≡ 1 → bit_at places at ≡ 1
  left_place at on = omega (
    arith,
    on,
    bit_at_and places (bit_not w64 quiet) at,
    bit_at-lt places at,
  )

  pub left_below : (at : ℕ) → bit_at (bit_and places (bit_not w64 quiet)) at ≡ 1 → at < 64
  left_below at on = elim (cases_lt at 64) [
    | inl lt ↦ lt
    | inr ge ↦ absurd (let off = bit_at_above places 64 at fits (omega (arith, ge)) in
        let one = left_place at on in omega (arith, off, one))
  ]

  pub left_loud : (at : ℕ) → bit_at (bit_and places (bit_not w64 quiet)) at ≡ 1 → has_bit quiet at ≢ true
  left_loud at on has =
      let lt = left_below at on in
      let one = has_one quiet at has in
      let off = bit_at_not w64 quiet at small lt in
      omega (arith, on, one, off, bit_at_and places (bit_not w64 quiet) at, bit_at-lt places at)

  pub left_quiet : (at : ℕ) → at < 64 → bit_at places at ≡ 1 → bit_at (bit_and places (bit_not w64 quiet)) at ≢ 1
      → has_bit quiet at ≡ true
  left_quiet at lt on off = bit_has quiet at (
      let is = bit_at_not w64 quiet at small lt in
      let less = bit_at-lt quiet at in
      let both = bit_at_and places (bit_not w64 quiet) at in
      elim (cases_eq (bit_at quiet at) 1) [
        | inl e ↦ e
        | inr ne ↦ absurd (off (omega (arith, on, is, less, both, ne)))
      ])

-- ---- walks

abbrev pub AreOnce : List ℕ → Type 0
AreOnce l = (i j c : ℕ) → slice_get l i ≡ Some c → slice_get l j ≡ Some c → i ≡ j

abbrev pub IsNever : (ℕ → Type 0) → Type 0
IsNever Done = (at : ℕ) → Done at → ⊥

pub from_cases : (n : ℕ) (l : List ℕ) (k : ℕ) → AreOnce l → IsFrom n l k ⊎ (IsFrom n l k → ⊥)
from_cases n l k once = elim (before_cases l (length l) k) [
  | inl b ↦ elim (cases_lt b.0 n) [
    | inl near ↦ inr (λ f. let same = once b.0 f.0 k b.2 f.2 in let le = f.1 in omega (arith, same, near, le))
    | inr far ↦ inl (b.0, omega (arith, far), b.2)
  ]
  | inr none ↦ inr (λ f. none (f.0, slice_get_within l f.0 k f.2, f.2))
]

module _ {V : Type 0} {P : V → Type 0} (show : DynBox V Global P → Seen) (choice : DynBox V Global P → Option ℕ)
    (ticks : ℕ) where
  -- ticks have passed of those at some places of a list, and each other is the old one
  pub record IsLapsed (Done : ℕ → Type 0) (l : List ℕ) (old new : Nodes V P) : Type 0 where
    pub clock : IsSameClock old new
    pub done : (at c : ℕ) → Done at → slice_get l at ≡ Some c
        → HasElapsed ticks old.behind old.tick (choice_at choice old c) (stored_at show old.slab c)
        (stored_at show new.slab c)
    pub rest : (k : ℕ) → ((at : ℕ) → Done at → slice_get l at ≢ Some k) → get new.slab k ≡ get old.slab k

  pub lapse_start : (Done : ℕ → Type 0) (l : List ℕ) (old : Nodes V P)
      → ((at c : ℕ) → Done at → slice_get l at ≡ Some c
      → HasElapsed ticks old.behind old.tick (choice_at choice old c) (stored_at show old.slab c)
      (stored_at show old.slab c))
      → IsLapsed Done l old old
  lapse_start Done l old done =
      record { clock = record { behind = refl; tick = refl }; done = done; rest = λ k none. refl }

  module _ (Done : ℕ → Type 0) (l : List ℕ) (old mid : Nodes V P) (at key : ℕ) (once : AreOnce l)
      (here : slice_get l at ≡ Some key) (first : Done at → ⊥) (w : IsLapsed Done l old mid) where
    pub same_get : get mid.slab key ≡ get old.slab key
    same_get = w.rest key (λ j d on. first (subst Done (once j at key on here) d))

    pub same_stored : stored_at show mid.slab key ≡ stored_at show old.slab key
    same_stored = ap (shown_opt show) same_get

    pub same_choice : choice_at choice mid key ≡ choice_at choice old key
    same_choice = ap (choice_opt choice) same_get

    pub same_shown : shown_at show mid key ≡ shown_at show old key
    same_shown =
        ap (λ b. late b mid.tick (stored_at show mid.slab key)) w.clock.behind
        ∙ ap (λ t. late old.behind t (stored_at show mid.slab key)) w.clock.tick
        ∙ ap (late old.behind old.tick) same_stored

    pub posted_here : PostedIn (shown_at show old key) → PostedIn (shown_at show mid key)
    posted_here posted = subst PostedIn (sym same_shown) posted

    pub room_here : RoomIn ticks (shown_at show old key) → RoomIn ticks (shown_at show mid key)
    room_here room = subst (RoomIn ticks) (sym same_shown) room

    pub stands_here : (1 < ticks → ticks ≤ stands_in (choice_at choice old key) (shown_at show old key)) → 1 < ticks
        → ticks ≤ stands_in (choice_at choice mid key) (shown_at show mid key)
    stands_here stands many =
        subst (λ o. ticks ≤ stands_in (choice_at choice mid key) o) (sym same_shown)
        (subst (λ c. ticks ≤ stands_in c (shown_at show old key)) (sym same_choice) (stands many))

    pub lags_here : (old.behind ≡ true → LagsIn old.tick (stored_at show old.slab key)) → mid.behind ≡ true
        → LagsIn mid.tick (stored_at show mid.slab key)
    lags_here lags on =
        subst (λ t. LagsIn t (stored_at show mid.slab key)) (sym w.clock.tick)
        (subst (LagsIn old.tick) (sym same_stored) (lags (sym w.clock.behind ∙ on)))

    pub lapse_step : (Next : ℕ → Type 0) (new : Nodes V P) → ((j : ℕ) → Next j → j ≢ at → Done j)
        → ((j : ℕ) → Done j → Next j) → Next at
        → HasElapsed ticks mid.behind mid.tick (choice_at choice mid key) (stored_at show mid.slab key)
        (stored_at show new.slab key)
        → ((k : ℕ) → k ≢ key → get new.slab k ≡ get mid.slab k) → IsSameClock mid new
        → IsLapsed Next l old new
    lapse_step Next new fewer more next elapsed others same = record {
      clock = record { behind = same.behind ∙ w.clock.behind; tick = same.tick ∙ w.clock.tick };
      done = λ j c so on. elim (cases_eq j at) [
        | inl e ↦
            let is_key : key ≡ c = sym (entry_at l at c key here (ap (slice_get l) (sym e) ∙ on)) in
            subst (λ k. HasElapsed ticks old.behind old.tick (choice_at choice old k) (stored_at show old.slab k)
            (stored_at show new.slab k)) is_key
            (subst (λ n. HasElapsed ticks old.behind old.tick (choice_opt choice n) (shown_opt show n)
            (stored_at show new.slab key)) same_get
            (subst (λ t. HasElapsed ticks old.behind t (choice_at choice mid key) (stored_at show mid.slab key)
            (stored_at show new.slab key)) w.clock.tick
            (subst (λ b. HasElapsed ticks b mid.tick (choice_at choice mid key) (stored_at show mid.slab key)
            (stored_at show new.slab key)) w.clock.behind elapsed)))
        | inr ne ↦
            let other : c ≢ key = (λ e. ne (once j at key (on ∙ ap Some e) here)) in
            subst (HasElapsed ticks old.behind old.tick (choice_at choice old c) (stored_at show old.slab c))
            (sym (ap (shown_opt show) (others c other))) (w.done j c (fewer j so ne) on)
      ];
      rest = λ k none. others k (λ e. none at next (here ∙ ap Some (sym e)))
          ∙ w.rest k (λ j d. none j (more j d));
    }

  -- ---- from a place of the list on

  abbrev pub IsPassed : (from i at : ℕ) → Type 0
  IsPassed from i at = (from ≤ at) × (at < i)

  pub record IsOver (from i : ℕ) (l : List ℕ) (old new : Nodes V P) : Type 0 where
    pub lapsed : IsLapsed (IsPassed from i) l old new
    pub quiet : new.quiet ≡ old.quiet

  pub over_start : (from : ℕ) (l : List ℕ) (old : Nodes V P) → IsOver from from l old old
  over_start from l old = record {
    lapsed = lapse_start (IsPassed from from) l old
        (λ at c d on. absurd (let ge = d.0 in let lt = d.1 in omega (arith, ge, lt)));
    quiet = refl;
  }

  pub not_passed : (from i : ℕ) → IsPassed from i i → ⊥
  not_passed from i d = let lt = d.1 in omega (arith, lt)

  pub over_step : (from i key : ℕ) (l : List ℕ) (old mid new : Nodes V P) → AreOnce l → slice_get l i ≡ Some key
      → from ≤ i → IsOver from i l old mid
      → HasElapsed ticks mid.behind mid.tick (choice_at choice mid key) (stored_at show mid.slab key)
      (stored_at show new.slab key)
      → ((k : ℕ) → k ≢ key → get new.slab k ≡ get mid.slab k) → IsSameClock mid new → new.quiet ≡ mid.quiet
      → IsOver from (i + 1) l old new
  over_step from i key l old mid new once here le w elapsed others same quiet = record {
    lapsed = lapse_step (IsPassed from i) l old mid i key once here (not_passed from i) w.lapsed
        (IsPassed from (i + 1)) new
        (λ j d ne. (d.0, (let lt = d.1 in omega (arith, lt, ne))))
        (λ j d. (d.0, (let lt = d.1 in omega (arith, lt)))) (le, omega arith) elapsed others same;
    quiet = quiet ∙ w.quiet;
  }

  pub over_done : (from i : ℕ) (l : List ℕ) (old new : Nodes V P) → length l ≤ i → IsOver from i l old new
      → (k : ℕ) → IsFrom from l k
      → HasElapsed ticks old.behind old.tick (choice_at choice old k) (stored_at show old.slab k)
      (stored_at show new.slab k)
  over_done from i l old new long w k on =
      let within = slice_get_within l on.0 k on.2 in
      w.lapsed.done on.0 k (on.1, omega (arith, within, long)) on.2

  pub over_rest : (from i : ℕ) (l : List ℕ) (old new : Nodes V P) → IsOver from i l old new
      → (k : ℕ) → ¬ IsFrom from l k → get new.slab k ≡ get old.slab k
  over_rest from i l old new w k not = w.lapsed.rest k (λ j d on. not (j, d.0, on))

  -- ---- those of the first 64 places that are not quiet

  abbrev pub IsTurned : (left at : ℕ) → Type 0
  IsTurned left at = (at < 64) × (bit_at left at ≢ 1)

  pub record IsNear (l : List ℕ) (voices left : ℕ) (old new : Nodes V P) : Type 0 where
    pub lapsed : IsLapsed (IsTurned left) l old new
    pub left_at : (at : ℕ) → bit_at left at ≡ 1 → (at < 64) × (at < length l) × (has_bit new.quiet at ≢ true)
    pub quiet : IsQuiet show new l voices

  pub near_start : (l : List ℕ) (voices left : ℕ) (old : Nodes V P) → 0 < ticks
      → ((at : ℕ) → at < length l → at < 64 → has_bit left at ≢ true → has_bit old.quiet at ≡ true)
      → ((at : ℕ) → has_bit left at ≡ true → at < 64)
      → ((at : ℕ) → has_bit left at ≡ true → at < length l)
      → ((at : ℕ) → has_bit left at ≡ true → has_bit old.quiet at ≢ true)
      → IsLate show old → ((k : ℕ) → RoomIn ticks (shown_at show old k)) → IsQuiet show old l voices
      → IsNear l voices left old old
  near_start l voices left old some all near only loud late_old room quiet = record {
    lapsed = lapse_start (IsTurned left) l old (λ at c d on.
        let bit = all at (slice_get_within l at c on) d.0 (λ has. d.1 (has_one left at has)) in
        let there = quiet.there at c d.0 bit on in
        let behind : behind_at (stored_at show old.slab c) ≢ None =
        (λ none. let clash : Some at ≡ None = sym there ∙ none in cc) in
        subst (λ b. HasElapsed ticks b old.tick (choice_at choice old c) (stored_at show old.slab c)
        (stored_at show old.slab c)) (sym quiet.behind)
        (lagging ticks old.tick (choice_at choice old c) (stored_at show old.slab c) some
        (late_old.lags quiet.behind c) behind
        (subst (λ b. RoomIn ticks (late b old.tick (stored_at show old.slab c))) quiet.behind (room c))));
    left_at = λ at on.
        let has = bit_has left at on in
        (near at has, only at has, loud at has);
    quiet = quiet;
  }

  module _ (l : List ℕ) (voices left : ℕ) (old mid new : Nodes V P) (key : ℕ) (fits : left < 2 ^ 64) (some : left ≢ 0)
      (once : AreOnce l) (here : slice_get l (trailing_zeros w64 left) ≡ Some key) (w : IsNear l voices left old mid)
    where
      abbrev at : ℕ
      at = trailing_zeros w64 left

      abbrev next : ℕ
      next = bit_and left (bit_not w64 (1 * 2 ^ at % 2 ^ 64))

      at_low : at < 64
      at_low = (w.left_at at (least_on left fits some)).0

      next_off : bit_at next at ≡ 0
      next_off = bit_at_clear_same w64 left at at_low

      pub near_first : IsTurned left (trailing_zeros w64 left) → ⊥
      near_first d = d.1 (least_on left fits some)

      near_next : (told : Bool) → told ≡ has_bit voices at → ((k : ℕ) → k ≢ key → get new.slab k ≡ get mid.slab k)
          → (has_bit new.quiet at ≡ true → has_bit mid.quiet at ≢ true
          → (behind_at (stored_at show new.slab key) ≡ Some at) × (asks_in (stored_at show new.slab key) ≡ told))
          → ((k : ℕ) → k < 64 → k ≢ at → has_bit new.quiet k ≡ has_bit mid.quiet k)
          → (j c : ℕ) → j < 64 → has_bit new.quiet j ≡ true → slice_get l j ≡ Some c
          → (behind_at (stored_at show new.slab c) ≡ Some j) × (asks_in (stored_at show new.slab c) ≡ has_bit voices j)
      near_next told told_is others now bits j c lt bit on = elim (cases_eq j at) [
        | inl e ↦
            let is_key : c ≡ key = entry_at l at c key here (ap (slice_get l) (sym e) ∙ on) in
            let both = now (ap (has_bit new.quiet) (sym e) ∙ bit) (w.left_at at (least_on left fits some)).2 in (
              ap (λ k. behind_at (stored_at show new.slab k)) is_key ∙ both.0 ∙ ap Some (sym e),
              ap (λ k. asks_in (stored_at show new.slab k)) is_key ∙ both.1 ∙ told_is ∙ ap (has_bit voices) (sym e),
            )
        | inr ne ↦
            let other : c ≢ key = (λ e. ne (once j at key (on ∙ ap Some e) here)) in
            let same = ap (shown_opt show) (others c other) in
            let was = sym (bits j lt ne) ∙ bit in
            (ap behind_at same ∙ w.quiet.there j c lt was on, ap asks_in same ∙ w.quiet.asks j c lt was on)
      ]

      pub near_step : (told : Bool) → told ≡ has_bit voices (trailing_zeros w64 left)
          → HasElapsed ticks true mid.tick (choice_at choice mid key) (stored_at show mid.slab key)
          (stored_at show new.slab key)
          → (has_bit new.quiet (trailing_zeros w64 left) ≡ true → has_bit mid.quiet (trailing_zeros w64 left) ≢ true
          → (behind_at (stored_at show new.slab key) ≡ Some (trailing_zeros w64 left))
          × (asks_in (stored_at show new.slab key) ≡ told))
          → ((k : ℕ) → k < 64 → k ≢ trailing_zeros w64 left → has_bit new.quiet k ≡ has_bit mid.quiet k)
          → ((k : ℕ) → k ≢ key → get new.slab k ≡ get mid.slab k) → IsSameClock mid new
          → IsNear l voices (bit_and left (bit_not w64 (1 * 2 ^ trailing_zeros w64 left % 2 ^ 64))) old new
      near_step told told_is elapsed now bits others same = record {
        lapsed = lapse_step (IsTurned left) l old mid at key once here near_first w.lapsed (IsTurned next) new
            (λ j d ne. (d.0, (λ on. d.1 (next_others left fits some j d.0 ne ∙ on))))
            (λ j d. (d.0, (λ on. d.1 (next_fewer left fits some j on))))
            (at_low, (λ on. let off = next_off in omega (arith, off, on)))
            (subst (λ b. HasElapsed ticks b mid.tick (choice_at choice mid key) (stored_at show mid.slab key)
            (stored_at show new.slab key)) (sym w.quiet.behind) elapsed)
            others same;
        left_at = λ j on.
            let was = w.left_at j (next_fewer left fits some j on) in
            let ne : j ≢ at = (λ e. let off : bit_at next j ≡ 0 = ap (bit_at next) e ∙ next_off in omega
            (arith, off, on)) in
            (was.0, was.1, (λ bit. was.2 (sym (bits j was.0 ne) ∙ bit)));
        quiet = record {
          behind = same.behind ∙ w.quiet.behind;
          there = λ j c lt bit on. (near_next told told_is others now bits j c lt bit on).0;
          asks = λ j c lt bit on. (near_next told told_is others now bits j c lt bit on).1;
        };
      }

  unlisted : (l : List ℕ) (k : ℕ) → (Before l 64 k → ⊥) → ¬ IsFrom 64 l k → IsOn l k → ⊥
  unlisted l k none not on = elim (cases_lt on.0 64) [
    | inl lt ↦ none (on.0, lt, on.1)
    | inr ge ↦ not (on.0, (omega (arith, ge)), on.1)
  ]

  pub unmoved : (l : List ℕ) (old new : Nodes V P) (k : ℕ) → IsRoll (shown_at show old) l → (IsOn l k → ⊥)
      → get new.slab k ≡ get old.slab k
      → HasElapsed ticks old.behind old.tick (choice_at choice old k) (stored_at show old.slab k)
      (stored_at show new.slab k)
  unmoved l old new k roll not same =
      subst (λ n. HasElapsed ticks old.behind old.tick (choice_at choice old k) (stored_at show old.slab k)
      (shown_opt show n)) (sym same)
      (silent ticks old.tick old.behind (choice_at choice old k) (stored_at show old.slab k)
      (λ is. not (roll.all k (late_sched old.behind old.tick (stored_at show old.slab k) ∙ is))))

  pub near_done : (l : List ℕ) (voices left : ℕ) (old new : Nodes V P) → IsRoll (shown_at show old) l
      → old.behind ≡ true → left ≡ 0 → IsNear l voices left old new → (k : ℕ) → ¬ IsFrom 64 l k
      → HasElapsed ticks true old.tick (choice_at choice old k) (stored_at show old.slab k)
      (stored_at show new.slab k)
  near_done l voices left old new roll on none w k not =
      let off : (at : ℕ) → bit_at left at ≢ 1 = (λ at bit.
      let zero_at : bit_at left at ≡ 0 = ap (λ n. bit_at n at) none ∙ bit_at-zero at in omega (arith, zero_at, bit)) in
      subst (λ b. HasElapsed ticks b old.tick (choice_at choice old k) (stored_at show old.slab k)
      (stored_at show new.slab k)) on
      (elim (before_cases l 64 k) [
        | inl b ↦ w.lapsed.done b.0 k (b.1, off b.0) b.2
        | inr out ↦ unmoved l old new k roll (unlisted l k out not)
            (w.lapsed.rest k (λ j d at. out (j, d.0, at)))
      ])

  pub near_far : (l : List ℕ) (voices left : ℕ) (old new : Nodes V P) → AreOnce l → IsNear l voices left old new
      → (k : ℕ) → IsFrom 64 l k → get new.slab k ≡ get old.slab k
  near_far l voices left old new once w k far = w.lapsed.rest k (λ j d at.
      let same = once j far.0 k at far.2 in
      let le = far.1 in
      let lt = d.0 in
      omega (arith, same, le, lt))

  -- ---- all

  pub each_both : (l : List ℕ) (old mid new : Nodes V P) → AreOnce l → old.behind ≡ true → IsSameClock old mid
      → ((k : ℕ) → ¬ IsFrom 64 l k
      → HasElapsed ticks true old.tick (choice_at choice old k) (stored_at show old.slab k)
      (stored_at show mid.slab k))
      → ((k : ℕ) → IsFrom 64 l k → get mid.slab k ≡ get old.slab k)
      → ((k : ℕ) → IsFrom 64 l k
      → HasElapsed ticks mid.behind mid.tick (choice_at choice mid k) (stored_at show mid.slab k)
      (stored_at show new.slab k))
      → ((k : ℕ) → ¬ IsFrom 64 l k → get new.slab k ≡ get mid.slab k) → (k : ℕ)
      → HasElapsed ticks old.behind old.tick (choice_at choice old k) (stored_at show old.slab k)
      (stored_at show new.slab k)
  each_both l old mid new once on same near far from rest k = elim (from_cases 64 l k once) [
    | inl is ↦
        subst (λ n. HasElapsed ticks old.behind old.tick (choice_opt choice n) (shown_opt show n)
        (stored_at show new.slab k)) (far k is)
        (subst (λ t. HasElapsed ticks old.behind t (choice_at choice mid k) (stored_at show mid.slab k)
        (stored_at show new.slab k)) same.tick
        (subst (λ b. HasElapsed ticks b mid.tick (choice_at choice mid k) (stored_at show mid.slab k)
        (stored_at show new.slab k)) same.behind (from k is)))
    | inr not ↦
        subst (λ n. HasElapsed ticks old.behind old.tick (choice_at choice old k) (stored_at show old.slab k)
        (shown_opt show n)) (sym (rest k not))
        (subst (λ b. HasElapsed ticks b old.tick (choice_at choice old k) (stored_at show old.slab k)
        (stored_at show mid.slab k)) (sym on) (near k not))
  ]

  pub each_from : (l : List ℕ) (old new : Nodes V P) → IsRoll (shown_at show old) l
      → ((k : ℕ) → IsFrom 0 l k
      → HasElapsed ticks old.behind old.tick (choice_at choice old k) (stored_at show old.slab k)
      (stored_at show new.slab k))
      → ((k : ℕ) → ¬ IsFrom 0 l k → get new.slab k ≡ get old.slab k) → (k : ℕ)
      → HasElapsed ticks old.behind old.tick (choice_at choice old k) (stored_at show old.slab k)
      (stored_at show new.slab k)
  each_from l old new roll from rest k = elim (from_cases 0 l k roll.once) [
    | inl is ↦ from k is
    | inr not ↦ unmoved l old new k roll (λ on. not (on.0, omega arith, on.1)) (rest k not)
  ]

  pub far_lags : (l : List ℕ) (old mid : Nodes V P) → IsSameClock old mid
      → ((k : ℕ) → IsFrom 64 l k → get mid.slab k ≡ get old.slab k) → IsLate show old → mid.behind ≡ true
      → (k : ℕ) → IsFrom 64 l k → LagsIn mid.tick (stored_at show mid.slab k)
  far_lags l old mid same far late_old on k is =
      subst (λ t. LagsIn t (stored_at show mid.slab k)) (sym same.tick)
      (subst (λ n. LagsIn old.tick (shown_opt show n)) (sym (far k is)) (late_old.lags (sym same.behind ∙ on) k))

  far_shown : (l : List ℕ) (old mid : Nodes V P) → IsSameClock old mid
      → ((k : ℕ) → IsFrom 64 l k → get mid.slab k ≡ get old.slab k)
      → (k : ℕ) → IsFrom 64 l k → shown_at show mid k ≡ shown_at show old k
  far_shown l old mid same far k is =
      ap (λ b. late b mid.tick (stored_at show mid.slab k)) same.behind
      ∙ ap (λ t. late old.behind t (stored_at show mid.slab k)) same.tick
      ∙ ap (λ n. late old.behind old.tick (shown_opt show n)) (far k is)

  pub far_posted : (l : List ℕ) (old mid : Nodes V P) → IsSameClock old mid
      → ((k : ℕ) → IsFrom 64 l k → get mid.slab k ≡ get old.slab k) → ((k : ℕ) → PostedIn (shown_at show old k))
      → (k : ℕ) → IsFrom 64 l k → PostedIn (shown_at show mid k)
  far_posted l old mid same far posted k is = subst PostedIn (sym (far_shown l old mid same far k is)) (posted k)

  pub far_stands : (l : List ℕ) (old mid : Nodes V P) → IsSameClock old mid
      → ((k : ℕ) → IsFrom 64 l k → get mid.slab k ≡ get old.slab k)
      → ((k : ℕ) → ticks ≤ stands_in (choice_at choice old k) (shown_at show old k))
      → (k : ℕ) → IsFrom 64 l k → ticks ≤ stands_in (choice_at choice mid k) (shown_at show mid k)
  far_stands l old mid same far stands k is =
      subst (λ o. ticks ≤ stands_in (choice_at choice mid k) o) (sym (far_shown l old mid same far k is))
      (subst (λ c. ticks ≤ stands_in c (shown_at show old k)) (sym (ap (choice_opt choice) (far k is))) (stands k))

  -- who was quiet still is after ticks of those behind the first 64
  pub quiet_past : (l : List ℕ) (voices : ℕ) (mid new : Nodes V P) → AreOnce l → IsQuiet show mid l voices
      → ((k : ℕ) → ¬ IsFrom 64 l k → get new.slab k ≡ get mid.slab k) → IsSameClock mid new → new.quiet ≡ mid.quiet
      → IsQuiet show new l voices
  quiet_past l voices mid new once quiet rest same bits =
      let at_same : (at c : ℕ) → at < 64 → slice_get l at ≡ Some c
      → stored_at show new.slab c ≡ stored_at show mid.slab c = (λ at c lt on. ap (shown_opt show) (rest c (λ f.
      let one = once at f.0 c on f.2 in let le = f.1 in omega (arith, one, le, lt)))) in
      record {
        behind = same.behind ∙ quiet.behind;
        there = λ at c lt bit on. ap behind_at (at_same at c lt on)
            ∙ quiet.there at c lt (ap (λ n. has_bit n at) (sym bits) ∙ bit) on;
        asks = λ at c lt bit on. ap asks_in (at_same at c lt on)
            ∙ quiet.asks at c lt (ap (λ n. has_bit n at) (sym bits) ∙ bit) on;
      }

  -- and the clock goes on
  pub each_shown : (old mid new : Nodes V P) → new.slab ≡ mid.slab → new.behind ≡ old.behind
      → new.tick ≡ old.tick + ticks
      → ((k : ℕ) → HasElapsed ticks old.behind old.tick (choice_at choice old k) (stored_at show old.slab k)
      (stored_at show mid.slab k))
      → (k : ℕ) → shown_at show new k ≡ on_post (post_leapt ticks (choice_at choice old k)) (shown_at show old k)
  each_shown old mid new slab behind tick each k =
      ap (λ b. late b new.tick (stored_at show new.slab k)) behind
      ∙ ap (λ t. late old.behind t (stored_at show new.slab k)) tick
      ∙ ap (λ s. late old.behind (old.tick + ticks) (stored_at show s k)) slab ∙ (each k).is

  pub each_late : (old mid new : Nodes V P) → new.slab ≡ mid.slab → new.behind ≡ old.behind
      → new.tick ≡ old.tick + ticks → (new.behind ≡ false → new.quiet ≡ 0)
      → ((k : ℕ) → HasElapsed ticks old.behind old.tick (choice_at choice old k) (stored_at show old.slab k)
      (stored_at show mid.slab k))
      → IsLate show new
  each_late old mid new slab behind tick off each = record {
    lags = λ on k. subst (λ s. LagsIn new.tick (stored_at show s k)) (sym slab)
        (subst (λ t. LagsIn t (stored_at show mid.slab k)) (sym tick) ((each k).lags (sym behind ∙ on)));
    off = off;
  }

pub quiet_later : {V : Type 0} {P : V → Type 0} (show : DynBox V Global P → Seen) (l : List ℕ) (known : Option Known)
    (mid new : Nodes V P) → new.slab ≡ mid.slab → new.behind ≡ mid.behind → new.quiet ≡ mid.quiet
    → AreQuiet show mid l known → AreQuiet show new l known
quiet_later show l None mid new slab behind bits quiet = behind ∙ quiet
quiet_later show l (Some known) mid new slab behind bits quiet = record {
  behind = behind ∙ quiet.behind;
  there = λ at c lt bit on. ap (λ s. behind_at (stored_at show s c)) slab
      ∙ quiet.there at c lt (ap (λ n. has_bit n at) (sym bits) ∙ bit) on;
  asks = λ at c lt bit on. ap (λ s. asks_in (stored_at show s c)) slab
      ∙ quiet.asks at c lt (ap (λ n. has_bit n at) (sym bits) ∙ bit) on;
}

-- one tick
pub one_leapt : (choice : Option ℕ) (o : Option Shown) → on_post (post_leapt 1 choice) o ≡ on_post
    (post_turned choice) o
one_leapt choice o = nodes-more choice 0 o ∙ ap (on_post (post_turned choice)) (nodes-none choice o)

-- who is quiet stands always
module _ {V : Type 0} {P : V → Type 0} (show : DynBox V Global P → Seen) (choice : DynBox V Global P → Option ℕ)
    (nodes : Nodes V P) (l : List ℕ) (at k : ℕ) (late_so : IsLate show nodes) (quiet : AreBehind show nodes l)
    (near : at < 64) (bit : has_bit nodes.quiet at ≡ true) (on : slice_get l at ≡ Some k) where
  spot_behind : nodes.behind ≡ true
  spot_behind = elim (cases_Bool nodes.behind) [
    | inl is ↦ is
    | inr off ↦ absurd (
        let none : bit_at nodes.quiet at ≡ 0 = ap (λ n. bit_at n at) (late_so.off off) ∙ bit_at-zero at in
        let one = has_one nodes.quiet at bit in omega (arith, none, one))
  ]

  spot_there : behind_at (stored_at show nodes.slab k) ≢ None
  spot_there none = let clash : Some at ≡ None = sym (quiet at k near bit on) ∙ none in cc

  pub spot_stands : stands_in (choice_at choice nodes k) (shown_at show nodes k) ≡ always
  spot_stands =
      subst (λ b. stands_in (choice_at choice nodes k) (late b nodes.tick (stored_at show nodes.slab k)) ≡ always)
      (sym spot_behind)
      (behind_stands (choice_at choice nodes k) nodes.tick (stored_at show nodes.slab k)
      (late_so.lags spot_behind k) spot_there)

  pub spot_law : (n : ℕ) → StandsIn n (choice_at choice nodes k) (shown_at show nodes k)
  spot_law n =
      subst (λ b. StandsIn n (choice_at choice nodes k) (late b nodes.tick (stored_at show nodes.slab k)))
      (sym spot_behind)
      (behind_law n (choice_at choice nodes k) nodes.tick (stored_at show nodes.slab k)
      (late_so.lags spot_behind k) spot_there)

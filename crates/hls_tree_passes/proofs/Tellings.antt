-- What calls that change one node leave of who is behind.
use Rattle.std.proofs.Common.{◌≡◌, ◌≢◌, inl, inr, ℕ, Bool, true, false, List, Option, Some, None, refl, sym, ap, ◌∙◌}
use Rattle.std.proofs.Common.{subst, ◌==◌, ◌≤◌, length}
use Rattle.std.specs.declared.dyn_box.DynBox.{DynBox}
use Rattle.std.specs.declared.alloc.Global.{Global}
use Rattle.std.proofs.lemmas.Bool.{cases_eq, cases_Bool}
use Rattle.std.proofs.lemmas.Nat.Bits.{bit_at-zero}
use Rattle.hls_chron.specs.Ledger.{Ledger}
use Rattle.hls_sched.specs.Seen.{Seen, revoked}
use Rattle.hls_machine.specs.Hierarchy.{Seat}
use Rattle.hls_tree_nodes.specs.Shown.{Post, What, Scheduler, Thread, Shown, IsPosted}
use Rattle.hls_tree_nodes.specs.Shown.{ToldWhat, ToldIn, on_what, on_post, post_freed, post_revoked, asks_in}
use Rattle.hls_tree_nodes.specs.Behind.{LagsRight, LagsWhat, LagsIn, behind_at, place_what, lag_place, late}
use Rattle.hls_tree_nodes.specs.Behind.{late_what, late_book}
use Rattle.hls_tree_nodes.specs.Late.{IsLate, StaysLate}
use Rattle.hls_tree_nodes.specs.TreeOf.{IsRoll}
use Rattle.hls_tree_nodes.specs.Known.{has_bit}
use Rattle.hls_tree_nodes.specs.Views.{stored_at, shown_at}
use Rattle.hls_tree_nodes.specs.declared.nodes.Nodes.{Nodes}
use Rattle.hls_tree_nodes.specs.declared.station.Lag.{Lag}
use Rattle.hls_tree_nodes.proofs.Behind.{late_flat, late_behind, late_up, late_sched}
use Rattle.hls_tree_nodes.proofs.Walks.{IsChangedOn, changes_all, kept_in}

-- what a call leaves of one node: it may be behind where it was, and asks as it did then
pub record StaysAt (tick : ℕ) (old new : Option Shown) : Type 0 where
  pub lags : LagsIn tick new
  pub there : (at : ℕ) → behind_at old ≡ Some at → behind_at new ≡ Some at
  pub asks : (at : ℕ) → behind_at old ≡ Some at → asks_in new ≡ asks_in old

lags_by : (tick : ℕ) (lag : Option Lag) (post : Post) → lag_place lag ≡ None → LagsRight tick lag post
lags_by tick None post up = tt
lags_by tick (Some lag) post up = cc

lags_what : (tick : ℕ) (w : What) → place_what w ≡ None → LagsWhat tick w
lags_what tick (Scheduler post) up = lags_by tick post.lag post up
lags_what tick (Thread r) up = tt

-- who is not behind is as it may be
pub up_lags : (tick : ℕ) (o : Option Shown) → behind_at o ≡ None → LagsIn tick o
up_lags tick None up = tt
up_lags tick (Some s) up = lags_what tick s.what up

-- a node that is behind neither before nor after
pub stays_up : (tick : ℕ) (old new : Option Shown) → behind_at old ≡ None → behind_at new ≡ None
    → StaysAt tick old new
stays_up tick old new was is = record {
  lags = up_lags tick new is;
  there = λ at behind. absurd (let clash : None ≡ Some at = sym was ∙ behind in cc);
  asks = λ at behind. absurd (let clash : None ≡ Some at = sym was ∙ behind in cc);
}

no_bit : (bits at : ℕ) → bits ≡ 0 → has_bit bits at ≡ true → ⊥
no_bit bits at none bit =
    let on : has_bit 0 at ≡ true = subst (λ n. has_bit n at ≡ true) none bit in
    let clash : true ≡ false = sym on ∙ ap (λ n. n == 1) (bit_at-zero at) in
    cc

-- where one node is changed
pub stays_one : {V : Type 0} {P : V → Type 0} (show : DynBox V Global P → Seen) (old new : Nodes V P) (key : ℕ)
    → IsLate show old → new.behind ≡ old.behind → new.tick ≡ old.tick → new.quiet ≡ old.quiet
    → ((k : ℕ) → k ≢ key → stored_at show new.slab k ≡ stored_at show old.slab k)
    → (old.behind ≡ true → StaysAt old.tick (stored_at show old.slab key) (stored_at show new.slab key))
    → StaysLate show old new
stays_one show old new key is_late behind tick quiet others here =
    let off : new.behind ≡ false → new.quiet ≡ 0 = (λ flat. quiet ∙ is_late.off (sym behind ∙ flat)) in
    let bits : (at : ℕ) → has_bit new.quiet at ≡ true → has_bit old.quiet at ≡ true =
    (λ at bit. ap (λ n. has_bit n at) (sym quiet) ∙ bit) in
    elim (cases_Bool old.behind) [
      | inl on ↦ record {
        late = record {
          lags = λ on' k. elim (cases_eq k key) [
            | inl e ↦ subst (λ n. LagsIn new.tick (stored_at show new.slab n)) (sym e)
                (subst (λ t. LagsIn t (stored_at show new.slab key)) (sym tick) (here on).lags)
            | inr ne ↦ subst (LagsIn new.tick) (sym (others k ne))
                (subst (λ t. LagsIn t (stored_at show old.slab k)) (sym tick) (is_late.lags on k))
          ];
          off = off;
        };
        behind = behind;
        tick = tick;
        bits = λ at lt bit. bits at bit;
        there = λ at c lt bit is. elim (cases_eq c key) [
          | inl e ↦ ap (λ n. behind_at (stored_at show new.slab n)) e
              ∙ (here on).there at (ap (λ n. behind_at (stored_at show old.slab n)) (sym e) ∙ is)
          | inr ne ↦ ap behind_at (others c ne) ∙ is
        ];
        asks = λ at c lt bit is. elim (cases_eq c key) [
          | inl e ↦ ap (λ n. asks_in (stored_at show new.slab n)) e
              ∙ (here on).asks at (ap (λ n. behind_at (stored_at show old.slab n)) (sym e) ∙ is)
              ∙ ap (λ n. asks_in (stored_at show old.slab n)) (sym e)
          | inr ne ↦ ap asks_in (others c ne)
        ];
      }
      | inr flat ↦ record {
        late = record { lags = λ on k. absurd (let clash : true ≡ false = sym on ∙ behind ∙ flat in cc); off = off };
        behind = behind;
        tick = tick;
        bits = λ at lt bit. bits at bit;
        there = λ at c lt bit is. absurd (no_bit new.quiet at (off (behind ∙ flat)) bit);
        asks = λ at c lt bit is. absurd (no_bit new.quiet at (off (behind ∙ flat)) bit);
      }
    ]

-- ---- a telling

told_what : (slot : ℕ) (asks : Bool) (old new : What) → ToldWhat slot asks old new → place_what new ≡ place_what old
told_what slot asks (Scheduler old) (Scheduler new) told = ap lag_place told.lag
told_what slot asks (Scheduler old) (Thread r) told = absurd told
told_what slot asks (Thread r) (Scheduler new) told = absurd told
told_what slot asks (Thread r) (Thread q) told = refl

pub told_behind : (slot : ℕ) (asks : Bool) (old new : Option Shown) → ToldIn slot asks old new
    → behind_at new ≡ behind_at old
told_behind slot asks None None told = refl
told_behind slot asks None (Some new) told = absurd told
told_behind slot asks (Some old) None told = absurd told
told_behind slot asks (Some old) (Some new) told = told_what slot asks old.what new.what told.what

-- a node that is stored as it is shown is told
pub told_stays : {V : Type 0} {P : V → Type 0} (show : DynBox V Global P → Seen) (old new : Nodes V P)
    (key slot : ℕ) (asks : Bool) → IsLate show old → new.behind ≡ old.behind → new.tick ≡ old.tick
    → new.quiet ≡ old.quiet → ((k : ℕ) → k ≢ key → stored_at show new.slab k ≡ stored_at show old.slab k)
    → stored_at show old.slab key ≡ shown_at show old key
    → ToldIn slot asks (stored_at show old.slab key) (stored_at show new.slab key) → StaysLate show old new
told_stays show old new key slot asks is_late behind tick quiet others up told =
    stays_one show old new key is_late behind tick quiet others (λ on.
    let was : behind_at (stored_at show old.slab key) ≡ None = ap behind_at up
    ∙ ap (λ b. behind_at (late b old.tick (stored_at show old.slab key))) on
    ∙ late_behind old.tick (stored_at show old.slab key) in
    stays_up old.tick _ _ was (told_behind slot asks _ _ told ∙ was))

-- ---- the processor is taken back

posted_freed : (post : Post) → IsPosted post → IsPosted (post_freed post)
posted_freed post x = record {
  configured = x.configured;
  mask = x.mask;
  granted = refl;
  ranges = x.ranges;
  config = x.config;
  only = x.only;
}

freed_by : (tick : ℕ) (lag : Option Lag) (post : Post) → LagsRight tick lag post
    → LagsRight tick lag (post_freed post)
freed_by tick None post may = tt
freed_by tick (Some lag) post may = record {
  since = may.since;
  within = may.within;
  posted = posted_freed post may.posted;
  idle = may.idle;
  free = refl;
  lawful = record { made = may.lawful.made; seats = may.lawful.seats };
  room = may.room;
}

freed_what : (tick level : ℕ) (name : List ℕ) (seats : List Seat) (w : What) → LagsWhat tick w
    → (let o : Option Shown = Some (record { name = name; level = level; seats = seats; what = w }) in
    StaysAt tick o (on_post post_freed o))
freed_what tick level name seats (Scheduler post) may =
    record { lags = freed_by tick post.lag post may; there = λ at is. is; asks = λ at is. refl }
freed_what tick level name seats (Thread r) may = record { lags = tt; there = λ at is. is; asks = λ at is. refl }

pub freed_stays : (tick : ℕ) (o : Option Shown) → LagsIn tick o → StaysAt tick o (on_post post_freed o)
freed_stays tick None may = record { lags = tt; there = λ at is. is; asks = λ at is. refl }
freed_stays tick (Some s) may = freed_what tick s.level s.name s.seats s.what may

-- a box from which the processor was taken back, as it is shown where some may be behind
freed_post : (tick : ℕ) (lag : Option Lag) (post : Post) → late_book true tick lag (revoked post.unit)
    ≡ late_book true tick lag post.unit
freed_post tick None post = refl
freed_post tick (Some lag) post = refl

late_freed_what : (tick : ℕ) (w : What)
    → late_what true tick (on_what post_freed w) ≡ on_what post_revoked (late_what true tick w)
late_freed_what tick (Scheduler post) =
    ap (λ (b : Ledger). on_what post_revoked (late_what true tick (Scheduler (record post {
      unit = record post.unit { book = b };
      lag = None;
    })))) (freed_post tick post.lag post)
late_freed_what tick (Thread r) = refl

pub late_freed : (tick : ℕ) (o : Option Shown) → late true tick (on_post post_freed o)
    ≡ on_post post_revoked (late true tick o)
late_freed tick None = refl
late_freed tick (Some s) = ap (λ (w : What). Some (record s { what = w })) (late_freed_what tick s.what)

revoked_what : (w : What) → place_what (on_what post_revoked w) ≡ None
revoked_what (Scheduler post) = refl
revoked_what (Thread r) = refl

-- and nobody is behind
pub revoked_up : (o : Option Shown) → behind_at (on_post post_revoked o) ≡ None
revoked_up None = refl
revoked_up (Some s) = revoked_what s.what

-- ---- what is shown

-- where nobody may be behind, each is shown as it is stored
pub shown_flat : {V : Type 0} {P : V → Type 0} (show : DynBox V Global P → Seen) (nodes : Nodes V P)
    → nodes.behind ≡ false → (k : ℕ) → shown_at show nodes k ≡ stored_at show nodes.slab k
shown_flat show nodes flat k =
    ap (λ b. late b nodes.tick (stored_at show nodes.slab k)) flat ∙ late_flat nodes.tick (stored_at show nodes.slab k)

-- where some may, nobody is shown as behind
pub shown_up : {V : Type 0} {P : V → Type 0} (show : DynBox V Global P → Seen) (nodes : Nodes V P)
    → nodes.behind ≡ true → (k : ℕ) → behind_at (shown_at show nodes k) ≡ None
shown_up show nodes on k =
    ap (λ b. behind_at (late b nodes.tick (stored_at show nodes.slab k))) on
    ∙ late_behind nodes.tick (stored_at show nodes.slab k)

-- the processor was taken back from each scheduler on the list, where nobody was behind
pub begun : {V : Type 0} {P : V → Type 0} (show : DynBox V Global P → Seen) (old new : Nodes V P) (l : List ℕ) (i : ℕ)
    → IsRoll (shown_at show old) l → old.behind ≡ false → length l ≤ i
    → IsChangedOn (λ o. o) (λ k. on_post post_revoked) (stored_at show old.slab) (stored_at show new.slab) l i
    → (k : ℕ) → stored_at show new.slab k ≡ on_post post_revoked (shown_at show old k)
begun show old new l i roll flat le w k =
    changes_all (λ o. o) (λ k. on_post post_revoked) (stored_at show old.slab) (stored_at show new.slab) l i w le
    (λ k not. kept_in post_revoked (stored_at show old.slab k) (λ is.
    not (roll.all k (late_sched old.behind old.tick (stored_at show old.slab k) ∙ is)))) k
    ∙ ap (on_post post_revoked) (sym (shown_flat show old flat k))

-- where the processor was taken back from all that are stored, as from some that are not behind
pub begun_late : {V : Type 0} {P : V → Type 0} (show : DynBox V Global P → Seen) (new : Nodes V P)
    (s : ℕ → Option Shown) → new.behind ≡ true
    → ((k : ℕ) → stored_at show new.slab k ≡ on_post post_revoked (s k)) → IsLate show new
begun_late show new s on revoked = record {
  lags = λ on' k. up_lags new.tick _ (ap behind_at (revoked k) ∙ revoked_up (s k));
  off = λ flat. absurd (let clash : true ≡ false = sym on ∙ flat in cc);
}

pub begun_shown : {V : Type 0} {P : V → Type 0} (show : DynBox V Global P → Seen) (new : Nodes V P)
    (s : ℕ → Option Shown) → ((k : ℕ) → stored_at show new.slab k ≡ on_post post_revoked (s k))
    → (k : ℕ) → shown_at show new k ≡ on_post post_revoked (s k)
begun_shown show new s revoked k =
    late_up new.behind new.tick (stored_at show new.slab k) (ap behind_at (revoked k) ∙ revoked_up (s k)) ∙ revoked k

-- the processor is taken back from a node
pub freed_late : {V : Type 0} {P : V → Type 0} (show : DynBox V Global P → Seen) (old new : Nodes V P) (key : ℕ)
    → IsLate show old → new.behind ≡ old.behind → new.tick ≡ old.tick → new.quiet ≡ old.quiet
    → ((k : ℕ) → k ≢ key → stored_at show new.slab k ≡ stored_at show old.slab k)
    → stored_at show new.slab key ≡ on_post post_freed (stored_at show old.slab key) → StaysLate show old new
freed_late show old new key is_late behind tick quiet others here =
    stays_one show old new key is_late behind tick quiet others (λ on.
    subst (StaysAt old.tick (stored_at show old.slab key)) (sym here)
    (freed_stays old.tick (stored_at show old.slab key) (is_late.lags on key)))

pub freed_shown : {V : Type 0} {P : V → Type 0} (show : DynBox V Global P → Seen) (old new : Nodes V P) (key : ℕ)
    → old.behind ≡ true → new.behind ≡ old.behind → new.tick ≡ old.tick
    → stored_at show new.slab key ≡ on_post post_freed (stored_at show old.slab key)
    → shown_at show new key ≡ on_post post_revoked (shown_at show old key)
freed_shown show old new key on behind tick here =
    let o = stored_at show old.slab key in
    ap (late new.behind new.tick) here ∙ ap (λ b. late b new.tick (on_post post_freed o)) (behind ∙ on)
    ∙ ap (λ t. late true t (on_post post_freed o)) tick ∙ late_freed old.tick o
    ∙ ap (λ b. on_post post_revoked (late b old.tick o)) (sym on)

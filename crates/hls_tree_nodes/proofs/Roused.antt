-- A node that has caught up.
use Rattle.std.proofs.Common.{◌≡◌, ◌≢◌, ℕ, ◌+◌, ◌<◌, ◌≤◌, Bool, true, false, List, Option, Some, None, length}
use Rattle.std.proofs.Common.{slice_get}
use Rattle.std.proofs.Common.{refl, sym, ap, ◌∙◌, subst, arith, inl, inr}
use Rattle.std.proofs.lemmas.Bool.{cases_eq}
use Rattle.std.proofs.lemmas.Option.{slice_get_within}
use Rattle.std.specs.declared.dyn_box.DynBox.{DynBox}
use Rattle.std.specs.declared.alloc.Global.{Global}
use Rattle.slab.specs.Slab.{get}
use Rattle.hls_sched.specs.Seen.{Seen}
use Rattle.hls_tree_nodes.specs.Shown.{What, Scheduler, Thread, Shown, asks_in, is_sched, is_sched_what}
use Rattle.hls_tree_nodes.specs.Behind.{late, late_what, LagsIn, behind_at}
use Rattle.hls_tree_nodes.specs.TreeOf.{IsRoll, IsOn}
use Rattle.hls_tree_nodes.specs.Views.{stored_at, shown_at}
use Rattle.hls_tree_nodes.specs.Known.{has_bit}
use Rattle.hls_tree_nodes.specs.Late.{IsLate, StaysLate}
use Rattle.hls_tree_nodes.specs.declared.nodes.Nodes.{Nodes}
use Rattle.hls_tree_nodes.proofs.Behind.{late_behind, late_up, late_sched, lags_late}
use Rattle.hls_tree_nodes.proofs.Walks.{stored_others, Before, before_cases}

-- what is shown is shown as it is
pub late_twice : (t : ℕ) (o : Option Shown) → late true t (late true t o) ≡ late true t o
late_twice t o = late_up true t (late true t o) (late_behind t o)

module _ {V : Type 0} {P : V → Type 0} where
  -- the node of a number has caught up, and its bit is gone
  pub record HasCaughtUp (show : DynBox V Global P → Seen) (old new : Nodes V P) (key : ℕ) : Type 0 where
    pub on : old.behind ≡ true
    pub here : stored_at show new.slab key ≡ late true old.tick (stored_at show old.slab key)
    pub others : (k : ℕ) → k ≢ key → get new.slab k ≡ get old.slab k
    pub behind : new.behind ≡ old.behind
    pub tick : new.tick ≡ old.tick
    pub bits : (at : ℕ) → at < 64 → has_bit new.quiet at ≡ true → has_bit old.quiet at ≡ true
    pub gone : (at : ℕ) → at < 64 → has_bit new.quiet at ≡ true → behind_at (stored_at show old.slab key) ≢ Some at

  pub record IsRoused (show : DynBox V Global P → Seen) (old new : Nodes V P) (key : ℕ) : Type 0 where
    pub same : (k : ℕ) → shown_at show new k ≡ shown_at show old k
    pub late : StaysLate show old new
    pub stored : stored_at show new.slab key ≡ shown_at show new key

  pub roused : (show : DynBox V Global P → Seen) (old new : Nodes V P) (key : ℕ) → IsLate show old
      → HasCaughtUp show old new key → IsRoused show old new key
  roused show old new key is up =
      let other = stored_others show old.slab new.slab key up.others in
      let clock : (o : Option Shown) → late new.behind new.tick o ≡ late true old.tick o =
      λ o. ap (λ b. late b new.tick o) (up.behind ∙ up.on) ∙ ap (λ t. late true t o) up.tick in
      let now : shown_at show new key ≡ late true old.tick (stored_at show old.slab key) =
      clock (stored_at show new.slab key) ∙ ap (late true old.tick) up.here
      ∙ late_twice old.tick (stored_at show old.slab key) in
      let before : (k : ℕ) → late true old.tick (stored_at show old.slab k) ≡ shown_at show old k =
      λ k. ap (λ b. late b old.tick (stored_at show old.slab k)) (sym up.on) in
      record {
        same = λ k. elim (cases_eq k key) [
          | inl e ↦ subst (λ n. shown_at show new n ≡ shown_at show old n) (sym e) (now ∙ before key)
          | inr ne ↦ clock (stored_at show new.slab k) ∙ ap (late true old.tick) (other k ne) ∙ before k
        ];
        late = record {
          late = record {
            lags = λ on k. elim (cases_eq k key) [
              | inl e ↦ subst (λ n. LagsIn new.tick (stored_at show new.slab n)) (sym e)
                  (subst (LagsIn new.tick) (sym up.here) (subst (λ t. LagsIn t (late true old.tick
                  (stored_at show old.slab key))) (sym up.tick) (lags_late old.tick (stored_at show old.slab key))))
              | inr ne ↦ subst (λ t. LagsIn t (stored_at show new.slab k)) (sym up.tick)
                  (subst (LagsIn old.tick) (sym (other k ne)) (is.lags up.on k))
            ];
            off = λ no. absurd (let yes : true ≡ false = sym (up.behind ∙ up.on) ∙ no in cc);
          };
          behind = up.behind;
          tick = up.tick;
          bits = up.bits;
          there = λ at c lt bit was. elim (cases_eq c key) [
            | inl e ↦ absurd (up.gone at lt bit (subst (λ n. behind_at (stored_at show old.slab n) ≡ Some at) e was))
            | inr ne ↦ ap behind_at (other c ne) ∙ was
          ];
          asks = λ at c lt bit was. elim (cases_eq c key) [
            | inl e ↦ absurd (up.gone at lt bit (subst (λ n. behind_at (stored_at show old.slab n) ≡ Some at) e was))
            | inr ne ↦ ap asks_in (other c ne)
          ];
        };
        stored = up.here ∙ sym now;
      }

plain_what : (b : Bool) (t : ℕ) (w : What) → is_sched_what w ≢ true → late_what b t w ≡ w
plain_what b t (Scheduler post) not = absurd (not refl)
plain_what b t (Thread r) not = refl

-- who is no scheduler is shown as it is stored
pub late_plain : (b : Bool) (t : ℕ) (o : Option Shown) → is_sched o ≢ true → late b t o ≡ o
late_plain b t None not = refl
late_plain b t (Some s) not = ap (λ (w : What). Some (record s { what = w })) (plain_what b t s.what not)

earlier : (l : List ℕ) (i key : ℕ) → slice_get l i ≡ Some key → (k : ℕ) (before : Before l (i + 1) k) → k ≢ key
    → before.0 < i
earlier l i key at k before ne = elim (cases_eq before.0 i) [
  | inl j ↦ absurd (ne (let same : Some k ≡ Some key = sym before.2 ∙ ap (slice_get l) j ∙ at in cc))
  | inr nj ↦ (let lt = before.1 in omega (arith, lt, nj))
]

module _ {V : Type 0} {P : V → Type 0} where
  -- those on the list before a place have caught up
  pub record AreUp (show : DynBox V Global P → Seen) (old new : Nodes V P) (l : List ℕ) (i : ℕ) : Type 0 where
    pub same : (k : ℕ) → shown_at show new k ≡ shown_at show old k
    pub late : IsLate show new
    pub tick : new.tick ≡ old.tick
    pub up : (k : ℕ) → Before l i k → stored_at show new.slab k ≡ shown_at show new k

  pub up_start : (show : DynBox V Global P → Seen) (old : Nodes V P) (l : List ℕ) → IsLate show old
      → AreUp show old old l 0
  up_start show old l late = record {
    same = λ k. refl;
    late = late;
    tick = refl;
    up = λ k before. absurd (let lt = before.1 in omega (arith, lt));
  }

  pub up_step : (show : DynBox V Global P → Seen) (old mid new : Nodes V P) (l : List ℕ) (i key : ℕ)
      → slice_get l i ≡ Some key → AreUp show old mid l i
      → ((k : ℕ) → shown_at show new k ≡ shown_at show mid k) → StaysLate show mid new
      → stored_at show new.slab key ≡ shown_at show new key
      → ((k : ℕ) → k ≢ key → get new.slab k ≡ get mid.slab k) → AreUp show old new l (i + 1)
  up_step show old mid new l i key at was same stays stored others = record {
    same = λ k. same k ∙ was.same k;
    late = stays.late;
    tick = stays.tick ∙ was.tick;
    up = λ k before. elim (cases_eq k key) [
      | inl e ↦ subst (λ n. stored_at show new.slab n ≡ shown_at show new n) (sym e) stored
      | inr ne ↦ stored_others show mid.slab new.slab key others k ne
          ∙ was.up k (before.0, earlier l i key at k before ne, before.2) ∙ sym (same k)
    ];
  }

  pub up_end : (show : DynBox V Global P → Seen) (old new : Nodes V P) (l : List ℕ) (i : ℕ)
      → IsRoll (shown_at show old) l → length l ≤ i → AreUp show old new l i
      → (k : ℕ) → stored_at show new.slab k ≡ shown_at show old k
  up_end show old new l i roll le is k = elim (before_cases l i k) [
    | inl before ↦ is.up k before ∙ is.same k
    | inr not ↦ sym (late_plain new.behind new.tick (stored_at show new.slab k) (λ sched.
        let listed : IsOn l k = roll.all k (sym (ap is_sched (is.same k)) ∙ late_sched new.behind new.tick
        (stored_at show new.slab k) ∙ sched) in
        let within = slice_get_within l listed.0 k listed.1 in
        not (listed.0, omega (arith, within, le), listed.1))) ∙ is.same k
  ]

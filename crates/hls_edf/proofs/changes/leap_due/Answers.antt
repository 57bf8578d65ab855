use Rattle.std.proofs.Common.{rules, ◌≡◌, ◌≢◌, ◌<◌, ◌≤◌, ◌+◌, ℕ, true, false, length, is_some, arith, inl, inr}
use Rattle.std.proofs.Common.{refl, sym, ap, ◌∙◌, subst, get_or-set_same, get_or-set_other}
use Rattle.std.specs.Prelude.{slice_set, ◌⊎◌}
use Rattle.std.proofs.lemmas.Bool.{cases_lt, cases_eq}
use Rattle.hls_chron.specs.Ledger.{now_of}
use Rattle.hls_chron.specs.Seats.{terms_at}
use Rattle.hls_kinds.specs.Asks.{slot_asks}
use Rattle.hls_book.specs.declared.server.Server.{Server}
use Rattle.hls_book.specs.Servers.{vacant}
use Rattle.hls_edf.specs.Choice.{server_in}
use Rattle.hls_edf.specs.Changes.{leap_of}
use Rattle.hls_edf.specs.Inside.Calm.{IsCalm}
use Rattle.hls_edf.proofs.changes.leap_due.Goals as goal

-- up to the next slot of a mask: before one, that one, or silent
sides : (mask slot next k : ℕ) → ((j : ℕ) → slot + 1 ≤ j → j < next → slot_asks mask j ≡ false) → k < next
    → slot_asks mask k ≡ true → (k < slot) ⊎ (k ≡ slot)
sides mask slot next k silent lt on = elim (cases_lt k slot) [
  | inl less ↦ inl less
  | inr le ↦ elim (cases_eq k slot) [
    | inl is ↦ inr is
    | inr other ↦
        let off : slot_asks mask k ≡ false = silent k (omega (arith, le, other)) lt in
        absurd (let both = sym on ∙ off in cc)
  ]
]

pub loop-slot-init : goal.loop-slot-init
loop-slot-init c =
    let due = c.args.calm.due in
    let next = c.next_slot-slot in
    let off : (k : ℕ) → k < next.result → slot_asks due k ≡ true → ⊥ =
    λ k lt on. let both = sym on ∙ next.ensures.silent k (omega arith) lt in cc in
    record {
      length = search rules;
      past = λ k lt on. absurd (off k lt on);
      others = λ k silent. refl;
      rest = λ k le. refl;
      calm = λ k t lt before on. absurd (off k lt on);
      sooner = omega arith;
      within = next.ensures.within;
      asks = next.ensures.asks;
    }

pub loop-slot-preserved : goal.loop-slot-preserved
loop-slot-preserved c =
    let servers = c.args.servers.now in
    let state = c.args.state.now in
    let due = c.args.calm.due in
    let slot = c.loop-slot.slot in
    let now_servers = c.loop-slot.servers in
    let server : Server = c.leap-next.new.server in
    let next = c.next_slot-slot-in-loop-slot in
    let within : slot < length now_servers = search rules in
    let here : server_in now_servers slot ≡ server_in servers slot =
    c.loop-slot.invariant.rest slot (omega arith) in
    let taken : c.is_taken-taken.result ≡ is_some (terms_at state.book slot) = search rules in
    let asks : c.has_slot-asks.result ≡ slot_asks state.mask slot = search rules in
    let set : server_in (slice_set now_servers slot server) slot ≡ server =
    get_or-set_same now_servers slot server vacant within in
    let other : (k : ℕ) → k ≢ slot → server_in (slice_set now_servers slot server) k ≡ server_in now_servers k =
    λ k ne. get_or-set_other now_servers slot k server vacant ne in
    let on_here : slot_asks due slot ≡ true = c.loop-slot.invariant.asks (search rules) in
    let its : server ≡ leap_of (server_in servers slot) (is_some (terms_at state.book slot))
    (slot_asks state.mask slot) false (now_of state.book) c.args.ticks =
    rw (← here) (search rules) in
    let first : (t : ℕ) → t < c.min-until.result → t < c.loop-slot.until =
    λ t lt. omega (arith, lt, c.min-until.ensures) in
    let second : (t : ℕ) → t < c.min-until.result → t < c.leap-next.result =
    λ t lt. omega (arith, lt, c.min-until.ensures) in
    record {
      length = search rules;
      past = λ k lt on. elim (sides due slot next.result k next.ensures.silent lt on) [
        | inl less ↦ other k (λ e. absurd (omega (arith, less, e))) ∙ c.loop-slot.invariant.past k less on
        | inr is ↦ subst (λ j. server_in (slice_set now_servers slot server) j
            ≡ leap_of (server_in servers j) (is_some (terms_at state.book j)) (slot_asks state.mask j)
            false (now_of state.book) c.args.ticks) (sym is) (set ∙ its)
      ];
      others = λ k off.
          other k (λ e. let both = sym on_here ∙ ap (slot_asks due) (sym e) ∙ off in cc)
          ∙ c.loop-slot.invariant.others k off;
      rest = λ k le.
          other k (λ e. absurd (omega (arith, le, next.ensures.later, e)))
          ∙ c.loop-slot.invariant.rest k (omega (arith, le, next.ensures.later));
      calm = λ k t lt before on. elim (sides due slot next.result k next.ensures.silent lt on) [
        | inl less ↦
            subst (λ (at : Server). IsCalm at (is_some (terms_at state.book k)) (slot_asks state.mask k) t)
            (sym (other k (λ e. absurd (omega (arith, less, e)))))
            (c.loop-slot.invariant.calm k t less (first t before) on)
        | inr is ↦ subst (λ j. IsCalm (server_in (slice_set now_servers slot server) j)
            (is_some (terms_at state.book j)) (slot_asks state.mask j) t) (sym is)
            (subst (λ (at : Server). IsCalm at (is_some (terms_at state.book slot)) (slot_asks state.mask slot) t)
            (sym set) (rw (← taken, ← asks) (c.leap-next.ensures.calm t (second t before))))
      ];
      sooner = rw c.min-until.ensures (omega (arith, c.loop-slot.invariant.sooner));
      within = next.ensures.within;
      asks = next.ensures.asks;
    }

pub returns-clause-due : goal.returns-clause-due
returns-clause-due c = λ slot lt on.
    c.loop-slot.invariant.past slot (omega (arith, lt, c.loop-slot-test.false)) on

pub returns-clause-calm : goal.returns-clause-calm
returns-clause-calm c = λ slot t lt before on.
    c.loop-slot.invariant.calm slot t (omega (arith, lt, c.loop-slot-test.false)) before on

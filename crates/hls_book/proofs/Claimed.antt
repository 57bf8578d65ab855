-- What one server may still use, after each event.
use Rattle.std.proofs.Common.{◌≡◌, ◌≢◌, ℕ, ◌*◌, ◌-◌, ◌<◌, ◌≤◌, refl, arith, Bool, true, false}
use Rattle.std.specs.Prelude.{◌⊎◌}
use Rattle.std.proofs.lemmas.Bool.Decides.{nat_tests}
use Rattle.hls_book.specs.Demand.{owed, claimed}
use Rattle.hls_book.specs.declared.server.Server.{Server}
use Rattle.hls_book.specs.Servers.{vacant, fresh, marked, is_due, claimed_by}
use Rattle.hls_book.proofs.Owed.{owed-due, owed-past}

pub claimed-on : (whole budget deadline rate now bound : ℕ) → claimed true whole budget deadline rate now
    bound ≡ owed whole budget deadline rate bound
unfolding claimed
claimed-on whole budget deadline rate now bound = refl

-- it may use no more than one that counts as asking
pub off-on : (whole budget deadline rate now bound : ℕ) (on : Bool) → claimed false whole budget deadline rate
    now bound ≤ claimed on whole budget deadline rate now bound
unfolding claimed
off-on whole budget deadline rate now bound true = omega arith
off-on whole budget deadline rate now bound false = omega arith

pub due-vacant : (whole now bound : ℕ) → claimed_by whole vacant now bound ≡ 0
unfolding claimed
due-vacant whole now bound = omega arith

pub due-fresh : (whole : ℕ) (c : Server) (now bound : ℕ) → now ≤ bound
    → claimed_by whole (fresh c now) now bound ≡ c.parts * (bound - now)
unfolding claimed
due-fresh whole c now bound le = omega (arith, owed-due whole c.x now c.parts bound le)

-- whose deadline is past claims at least its rate
pub due-gone : (whole : ℕ) (c : Server) (now bound : ℕ) → now ≤ bound → c.deadline ≤ now
    → c.parts * (bound - now) ≤ claimed_by whole c now bound
unfolding claimed
due-gone whole c now bound le past =
    elim c.asked as (λ v. c.parts * (bound - now) ≤ claimed v whole c.budget c.deadline c.parts now bound) [
      | true ↦ owed-past whole c.budget c.deadline c.parts now bound le past
      | false ↦ omega (arith, owed-past whole c.budget c.deadline c.parts now bound le past)
    ]

pub due-marked : (whole : ℕ) (c : Server) (now bound : ℕ) → claimed_by whole (marked c false) now bound
    ≤ claimed_by whole c now bound
due-marked whole c now bound = off-on whole c.budget c.deadline c.parts now bound c.asked

-- what the test of a replenishment says
pub due-off : (whole : ℕ) (x y rate budget deadline now : ℕ)
    → is_due whole (record {
      x = x;
      y = y;
      parts = rate;
      budget = budget;
      deadline = deadline;
      asked = false;
    }) now ≡ true → (deadline ≤ now) ⊎ (rate * (deadline - now) ≤ budget * whole)
unfolding is_due
due-off whole x y rate budget deadline now is = grind (arith, nat_tests)

pub due-off-not : (whole : ℕ) (x y rate budget deadline now : ℕ)
    → is_due whole (record {
      x = x;
      y = y;
      parts = rate;
      budget = budget;
      deadline = deadline;
      asked = false;
    }) now ≡ false → (now < deadline) × (budget * whole ≤ rate * (deadline - now))
unfolding is_due
due-off-not whole x y rate budget deadline now is = grind (arith, nat_tests)

pub due-on : (whole : ℕ) (x y rate budget deadline now : ℕ)
    → is_due whole (record { x = x; y = y; parts = rate; budget = budget; deadline = deadline; asked = true })
    now ≡ true → deadline ≡ now
unfolding is_due
due-on whole x y rate budget deadline now is = grind (arith, nat_tests)

pub due-on-not : (whole : ℕ) (x y rate budget deadline now : ℕ)
    → is_due whole (record { x = x; y = y; parts = rate; budget = budget; deadline = deadline; asked = true })
    now ≡ false → deadline ≢ now
unfolding is_due
due-on-not whole x y rate budget deadline now is = grind (arith, nat_tests)

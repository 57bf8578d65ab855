-- What a command leaves of a node's accounts.
use Rattle.std.proofs.Common.{◌≡◌, ℕ, ◌<◌, ◌≤◌, List, [], ◌∷◌, length, Option, Some, None, Bool, true}
use Rattle.std.proofs.Common.{false, refl, ap, ◌∙◌, arith, fold}
use Rattle.hls_chron.specs.declared.book.Event.{Event}
use Rattle.hls_chron.specs.declared.book.Event.TheVariants.{Settle}
use Rattle.hls_chron.specs.declared.plain.Terms.{Terms}
use Rattle.hls_chron.specs.Kinds.{port_count}
use Rattle.hls_chron.specs.Ledger.{now_of, IsDated}
use Rattle.hls_chron.specs.Seats.{asked, served}
use Rattle.hls_kinds.specs.declared.tenant.Tenant.TheVariants.{Sits}
use Rattle.hls_kinds.specs.Tenants.{tenant_after, tenant_at, settled_at}
use Rattle.hls_book.specs.Promise.{HasPorts}
use Rattle.hls_machine.specs.Ledgers.{empty_book}
use Rattle.hls_machine.specs.Hierarchy.{Node, Loaded, Admitted, Scheduler, Tick, Wake, Place, Seat, seats_of}
use Rattle.hls_machine.specs.Hierarchy.{seat_of, book_of, config_of, since_of, asking_of, given_of}
use Rattle.hls_machine.specs.Steps.{marked, renewed, reseated, roused}
use Rattle.hls_machine.specs.Legal.{MayMoveTo}
use Rattle.hls_machine.proofs.Marks.{now_of-marks, tenant_at-marks, settled_at-marks, asked_by-marks}
use Rattle.hls_machine.proofs.Marks.{asked-marks, served-marks, given-marks, settled_grows, dated-marks, ports-marks}
use Rattle.hls_chron.proofs.ConfigLaws.{one_port}

-- a scheduler whose book is up to the present tick, with a seat for each port
pub record IsUpTo (now : ℕ) (s : Scheduler) : Type 0 where
  pub clock : now_of s.book ≡ now
  pub dated : IsDated s.book
  pub settled : settled_at s.book ≤ now
  pub seats : length s.ports ≡ port_count s.config
  pub ports : HasPorts s.config s.book

abbrev pub IsCurrent : ℕ → Option Node → Type 0
IsCurrent now None = Unit {0}
IsCurrent now (Some (Loaded s)) = IsUpTo now s
IsCurrent now (Some (Admitted t)) = t.stay ≤ now

-- a node's accounts tell the same of each tick so far, perhaps from later on
pub record Grown (now : ℕ) (past : ℕ → Tick) (k : ℕ) (old new : Option Node) : Type 0 where
  pub config : config_of new ≡ config_of old
  pub clock : now_of (book_of new) ≡ now_of (book_of old)
  pub asked : (slot t : ℕ) → asked (book_of new) slot t ≡ asked (book_of old) slot t
  pub served : (slot t : ℕ) → served (book_of new) slot t ≡ served (book_of old) slot t
  pub asking : (t : ℕ) → t < now → asking_of past k new t ≡ asking_of past k old t
  pub given : (port t : ℕ) → given_of past k new port t ≡ given_of past k old port t
  pub since : since_of old ≤ since_of new
  pub current : IsCurrent now new

pub grown_same : (now : ℕ) (past : ℕ → Tick) (k : ℕ) (node : Option Node) → IsCurrent now node
    → Grown now past k node node
grown_same now past k any c =
    record {
      config = refl;
      clock = refl;
      asked = λ slot t. refl;
      served = λ slot t. refl;
      asking =
          λ t lt. refl;
      given = λ port t. refl;
      since = omega arith;
      current = c;
    }

pub grown_then : (now : ℕ) (past : ℕ → Tick) (k : ℕ) (a b c : Option Node) → Grown now past k a b
    → Grown now past k b c → Grown now past k a c
grown_then now past k a b c f g = record {
  config = g.config ∙ f.config;
  clock = g.clock ∙ f.clock;
  asked = λ slot t. g.asked slot t ∙ f.asked slot t;
  served = λ slot t. g.served slot t ∙ f.served slot t;
  asking = λ t lt. g.asking t lt ∙ f.asking t lt;
  given = λ port t. g.given port t ∙ f.given port t;
  since = omega (arith, f.since, g.since);
  current = g.current;
}

grown_marks : (now : ℕ) (past : ℕ → Tick) (k : ℕ) (s : Scheduler) (events : List Event) → IsUpTo now s
    → Grown now past k (Some (Loaded s)) (marked events (Some (Loaded s)))
grown_marks now past k s events c =
    let later = settled_grows (now_of s.book) (settled_at s.book) events (omega (arith, c.clock, c.settled))
    in
    record {
      config = refl;
      clock = now_of-marks s.book events;
      asked = λ slot t. asked-marks s.book events slot t;
      served = λ slot t. served-marks s.book events slot t;
      asking = λ t lt. asked_by-marks s.config s.book events t (omega (arith, c.clock));
      given = λ port t. given-marks s.book events port t;
      since = rw (settled_at-marks s.book events) later.more;
      current = record {
        clock = now_of-marks s.book events ∙ c.clock;
        dated = dated-marks s.book events c.dated;
        settled = rw (settled_at-marks s.book events) (omega (arith, later.within, c.clock));
        seats = c.seats;
        ports = ports-marks s.config s.book events c.ports;
      };
    }

pub grown_marked : (now : ℕ) (past : ℕ → Tick) (k : ℕ) (events : List Event) (node : Option Node)
    → IsCurrent now node → Grown now past k node (marked events node)
grown_marked now past k events None c = grown_same now past k None c
grown_marked now past k events (Some (Loaded s)) c = grown_marks now past k s events c
grown_marked now past k events (Some (Admitted t)) c = grown_same now past k (Some (Admitted t)) c

pub grown_renewed : (now : ℕ) (past : ℕ → Tick) (k : ℕ) (b : Bool) (node : Option Node) → IsCurrent now node
    → Grown now past k node (renewed b now node)
grown_renewed now past k false any c = grown_same now past k any c
grown_renewed now past k true None c = grown_same now past k None c
grown_renewed now past k true (Some (Loaded s)) c = grown_marks now past k s (Settle ∷ []) c
grown_renewed now past k true (Some (Admitted t)) c =
    record {
      config = refl;
      clock = refl;
      asked = λ slot t. refl;
      served = λ slot t. refl;
      asking =
          λ t lt. refl;
      given = λ port t. refl;
      since = c;
      current = omega arith;
    }

pub grown_reseated : (now : ℕ) (past : ℕ → Tick) (k : ℕ) (seat : Seat) (place : Place) (node : Option Node)
    → MayMoveTo place node → IsCurrent now node → Grown now past k node (reseated seat node)
grown_reseated now past k seat place None may c = absurd may
grown_reseated now past k seat place (Some (Loaded s)) may c =
    record {
      config = refl;
      clock = refl;
      asked = λ slot t. refl;
      served = λ slot t. refl;
      asking =
          λ t lt. refl;
      given = λ port t. refl;
      since = omega arith;
      current =
          record {
            clock = c.clock;
            dated = c.dated;
            settled = c.settled;
            seats = one_port s.config may;
            ports =
                c.ports;
          };
    }
grown_reseated now past k seat place (Some (Admitted t)) may c =
    record {
      config = refl;
      clock = refl;
      asked = λ slot t. refl;
      served = λ slot t. refl;
      asking =
          λ t lt. refl;
      given = λ port t. refl;
      since = omega arith;
      current = c;
    }

pub grown_roused : (now : ℕ) (past : ℕ → Tick) (k : ℕ) (how : Wake) (node : Option Node) → IsCurrent now node
    → Grown now past k node (roused how node)
grown_roused now past k how None c = grown_same now past k None c
grown_roused now past k how (Some (Loaded s)) c = grown_same now past k (Some (Loaded s)) c
grown_roused now past k how (Some (Admitted t)) c =
    record {
      config = refl;
      clock = refl;
      asked = λ slot t. refl;
      served = λ slot t. refl;
      asking =
          λ t lt. refl;
      given = λ port t. refl;
      since = omega arith;
      current = c;
    }

-- the seats of a node
pub seats-marked : (events : List Event) (node : Option Node) → seats_of (marked events node) ≡ seats_of node
seats-marked events None = refl
seats-marked events (Some (Loaded s)) = refl
seats-marked events (Some (Admitted t)) = refl

pub seats-renewed : (b : Bool) (now : ℕ) (node : Option Node) → seats_of (renewed b now node) ≡ seats_of node
seats-renewed false now any = refl
seats-renewed true now None = refl
seats-renewed true now (Some (Loaded s)) = refl
seats-renewed true now (Some (Admitted t)) = refl

pub seats-roused : (how : Wake) (node : Option Node) → seats_of (roused how node) ≡ seats_of node
seats-roused how None = refl
seats-roused how (Some (Loaded s)) = refl
seats-roused how (Some (Admitted t)) = refl

pub seats-reseated : (seat : Seat) (place : Place) (node : Option Node) → MayMoveTo place node
    → seats_of (reseated seat node) ≡ seat ∷ []
seats-reseated seat place None may = absurd may
seats-reseated seat place (Some (Loaded s)) may = refl
seats-reseated seat place (Some (Admitted t)) may = refl

-- and its book
pub book-reseated : (seat : Seat) (node : Option Node) → book_of (reseated seat node) ≡ book_of node
book-reseated seat None = refl
book-reseated seat (Some (Loaded s)) = refl
book-reseated seat (Some (Admitted t)) = refl

pub book-roused : (how : Wake) (node : Option Node) → book_of (roused how node) ≡ book_of node
book-roused how None = refl
book-roused how (Some (Loaded s)) = refl
book-roused how (Some (Admitted t)) = refl

-- nobody sits in an empty book
pub nobody_sits : (now spare_ticks spare_marks slot since : ℕ) (terms : Terms)
    → tenant_at (empty_book now spare_ticks spare_marks) slot ≡ Sits terms since → ⊥
unfolding tenant_at
nobody_sits now spare_ticks spare_marks slot since terms e = cc

pub tenant-marked : (events : List Event) (node : Option Node) (slot since : ℕ) (terms : Terms)
    → tenant_at (book_of node) slot ≡ Sits terms since
    → tenant_at (book_of (marked events node)) slot ≡ fold (tenant_after slot (now_of (book_of node)))
    (tenant_at (book_of node) slot) events
tenant-marked events None slot since terms e = absurd (nobody_sits 0 0 0 slot since terms e)
tenant-marked events (Some (Loaded s)) slot since terms e = tenant_at-marks s.book slot events
tenant-marked events (Some (Admitted t)) slot since terms e = absurd (nobody_sits 0 0 0 slot since terms e)

-- settling, and new stays
pub since-renewed : (now port : ℕ) (node : Option Node) (seat : Seat) → IsCurrent now node
    → seat_of node port ≡ Some seat → since_of (renewed true now node) ≡ now
since-renewed now port None seat c e = cc
since-renewed now port (Some (Loaded s)) seat c e = settled_at-marks s.book (Settle ∷ []) ∙ c.clock
since-renewed now port (Some (Admitted t)) seat c e = refl

pub tenant-renewed : (now : ℕ) (node : Option Node) (slot since : ℕ) (terms : Terms) → IsCurrent now node
    → tenant_at (book_of node) slot ≡ Sits terms since
    → tenant_at (book_of (renewed true now node)) slot ≡ Sits terms now
tenant-renewed now None slot since terms c e = absurd (nobody_sits 0 0 0 slot since terms e)
tenant-renewed now (Some (Loaded s)) slot since terms c e = tenant_at-marks s.book slot (Settle ∷ [])
    ∙ ap (λ x. tenant_after slot (now_of s.book) x Settle) e ∙ ap (λ n. Sits terms n) c.clock
tenant-renewed now (Some (Admitted t)) slot since terms c e = absurd (nobody_sits 0 0 0 slot since terms e)

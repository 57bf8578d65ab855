-- Nodes as if they were not behind.
use Rattle.std.proofs.Common.{◌≡◌, ℕ, ◌+◌, ◌-◌, ◌<◌, ◌++◌, Bool, true, false, List, Option, Some, None, refl}
use Rattle.std.proofs.Common.{sym}
use Rattle.std.proofs.Common.{ap, ◌∙◌, subst, arith}
use Rattle.std.proofs.Math.ListN.{replicate}
use Rattle.std.proofs.lemmas.List.{replicate-append-replicate, append_assoc}
use Rattle.hls_chron.specs.declared.book.TickRow.{TickRow}
use Rattle.hls_chron.specs.declared.plain.Config.{Config}
use Rattle.hls_chron.specs.Ledger.{Ledger, with_rows}
use Rattle.hls_chron.specs.Seats.{terms_at}
use Rattle.hls_chron.proofs.ConfigLaws.{by_kind}
use Rattle.hls_kinds.specs.Asks.{asks}
use Rattle.hls_kinds.specs.Stands.{stands_idle}
use Rattle.hls_sched.specs.Seen.{Seen, config_of, seen_asks, tick_row, leapt}
use Rattle.hls_machine.specs.Hierarchy.{Seat}
use Rattle.hls_tree_nodes.specs.Shown.{Post, What, Scheduler, Thread, Shown, IsPosted, PostedWhat, PostedIn}
use Rattle.hls_tree_nodes.specs.Shown.{level_in, seats_in, place_in, mask_in, grant_in, asks_in, is_sched, ready_in}
use Rattle.hls_tree_nodes.specs.Shown.{asks_what}
use Rattle.hls_tree_nodes.specs.declared.station.Lag.{Lag}
use Rattle.hls_tree_nodes.specs.Behind.{late_book, late_post, late_what, late, LagsRight, LagsWhat}
use Rattle.hls_tree_nodes.specs.Behind.{LagsIn}
use Rattle.hls_tree_nodes.specs.Behind.{behind_at, place_what, lag_place}

-- ---- what stays as it is stored

pub late_level : (b : Bool) (t : ℕ) (o : Option Shown) → level_in (late b t o) ≡ level_in o
late_level b t None = refl
late_level b t (Some s) = refl

pub late_seats : (b : Bool) (t : ℕ) (o : Option Shown) → seats_in (late b t o) ≡ seats_in o
late_seats b t None = refl
late_seats b t (Some s) = refl

pub late_place : (b : Bool) (t : ℕ) (o : Option Shown) (port : ℕ) → place_in (late b t o) port ≡ place_in o port
late_place b t None port = refl
late_place b t (Some s) port = refl

sched_what : (b : Bool) (t level : ℕ) (name : List ℕ) (seats : List Seat) (w : What)
    → (let o : Option Shown = Some (record { name = name; level = level; seats = seats; what = w }) in
    is_sched (late b t o) ≡ is_sched o)
sched_what b t level name seats (Scheduler post) = refl
sched_what b t level name seats (Thread r) = refl

pub late_sched : (b : Bool) (t : ℕ) (o : Option Shown) → is_sched (late b t o) ≡ is_sched o
late_sched b t None = refl
late_sched b t (Some s) = sched_what b t s.level s.name s.seats s.what

mask_at : (b : Bool) (t level : ℕ) (name : List ℕ) (seats : List Seat) (w : What)
    → (let o : Option Shown = Some (record { name = name; level = level; seats = seats; what = w }) in
    mask_in (late b t o) ≡ mask_in o)
mask_at b t level name seats (Scheduler post) = refl
mask_at b t level name seats (Thread r) = refl

pub late_mask : (b : Bool) (t : ℕ) (o : Option Shown) → mask_in (late b t o) ≡ mask_in o
late_mask b t None = refl
late_mask b t (Some s) = mask_at b t s.level s.name s.seats s.what

grant_at : (b : Bool) (t level : ℕ) (name : List ℕ) (seats : List Seat) (w : What)
    → (let o : Option Shown = Some (record { name = name; level = level; seats = seats; what = w }) in
    grant_in (late b t o) ≡ grant_in o)
grant_at b t level name seats (Scheduler post) = refl
grant_at b t level name seats (Thread r) = refl

pub late_grant : (b : Bool) (t : ℕ) (o : Option Shown) → grant_in (late b t o) ≡ grant_in o
late_grant b t None = refl
late_grant b t (Some s) = grant_at b t s.level s.name s.seats s.what

ready_what : (b : Bool) (t level : ℕ) (name : List ℕ) (seats : List Seat) (w : What)
    → (let o : Option Shown = Some (record { name = name; level = level; seats = seats; what = w }) in
    ready_in (late b t o) ≡ ready_in o)
ready_what b t level name seats (Scheduler post) = refl
ready_what b t level name seats (Thread r) = refl

pub late_ready : (b : Bool) (t : ℕ) (o : Option Shown) → ready_in (late b t o) ≡ ready_in o
late_ready b t None = refl
late_ready b t (Some s) = ready_what b t s.level s.name s.seats s.what

-- ---- who is not behind

flat_what : (t : ℕ) (w : What) → late_what false t w ≡ w
flat_what t (Scheduler post) = refl
flat_what t (Thread r) = refl

-- where nobody may be behind, each is shown as it is stored
pub late_flat : (t : ℕ) (o : Option Shown) → late false t o ≡ o
late_flat t None = refl
late_flat t (Some s) = ap (λ (w : What). Some (record s { what = w })) (flat_what t s.what)

up_post : (b : Bool) (t : ℕ) (post : Post) → post.lag ≡ None → late_post b t post ≡ post
up_post false t post up = refl
up_post true t post up =
    ap (λ (lag : Option Lag). late_post true t (record post { lag = lag })) up
    ∙ ap (λ (lag : Option Lag). record post { lag = lag }) (sym up)

pub no_place : (lag : Option Lag) → lag_place lag ≡ None → lag ≡ None
no_place None none = refl
no_place (Some lag) none = cc

up_what : (b : Bool) (t : ℕ) (w : What) → place_what w ≡ None → late_what b t w ≡ w
up_what b t (Scheduler post) up = ap Scheduler (up_post b t post (no_place post.lag up))
up_what b t (Thread r) up = refl

-- and so is who is not behind
pub late_up : (b : Bool) (t : ℕ) (o : Option Shown) → behind_at o ≡ None → late b t o ≡ o
late_up b t None up = refl
late_up b t (Some s) up = ap (λ (w : What). Some (record s { what = w })) (up_what b t s.what up)

no_behind_what : (t : ℕ) (w : What) → place_what (late_what true t w) ≡ None
no_behind_what t (Scheduler post) = refl
no_behind_what t (Thread r) = refl

-- nobody is shown as behind
pub late_behind : (t : ℕ) (o : Option Shown) → behind_at (late true t o) ≡ None
late_behind t None = refl
late_behind t (Some s) = no_behind_what t s.what

-- ---- who is behind

terms_rows : (b : Ledger) (row : TickRow) (n slot : ℕ) → terms_at (with_rows b row n) slot ≡ terms_at b slot
unfolding terms_at
terms_rows b row n slot = refl

pub late_terms : (b : Bool) (t : ℕ) (lag : Option Lag) (unit : Seen) (slot : ℕ)
    → terms_at (late_book b t lag unit) slot ≡ terms_at unit.book slot
late_terms false t lag unit slot = refl
late_terms true t None unit slot = refl
late_terms true t (Some lag) unit slot = terms_rows unit.book _ (t - lag.since) slot

-- a box as it is shown is told right where the one that is stored is, and the other way round
pub posted_late : (b : Bool) (t : ℕ) (post : Post) → IsPosted post → IsPosted (late_post b t post)
posted_late b t post x = record {
  configured = x.configured;
  mask = x.mask;
  granted = x.granted;
  ranges = x.ranges;
  config = x.config;
  only = λ slot on none. x.only slot on (sym (late_terms b t post.lag post.unit slot) ∙ none);
}

pub posted_stored : (b : Bool) (t : ℕ) (post : Post) → IsPosted (late_post b t post) → IsPosted post
posted_stored b t post x = record {
  configured = x.configured;
  mask = x.mask;
  granted = x.granted;
  ranges = x.ranges;
  config = x.config;
  only = λ slot on none. x.only slot on (late_terms b t post.lag post.unit slot ∙ none);
}

posted_what : (b : Bool) (t : ℕ) (w : What) → PostedWhat (late_what b t w) → PostedWhat w
posted_what b t (Scheduler post) x = posted_stored b t post x
posted_what b t (Thread r) x = x

pub posted_in : (b : Bool) (t : ℕ) (o : Option Shown) → PostedIn (late b t o) → PostedIn o
posted_in b t None x = x
posted_in b t (Some s) x = posted_what b t s.what x

-- a scheduler that stands always while it is not granted asks by its mask alone
pub asks_idle : (config : Config) (b : Ledger) (row : TickRow) (n mask : ℕ) → stands_idle config ≡ true
    → asks config (with_rows b row n) mask ≡ asks config b mask
asks_idle config b row n mask =
    by_kind (λ config. stands_idle config ≡ true → asks config (with_rows b row n) mask ≡ asks config b mask)
    (λ idle. refl) (λ idle. refl) (λ idle. absurd (let no : false ≡ true = idle in cc)) (λ sharing idle. refl)
    (λ quantum idle. refl) (λ frame idle. absurd (let no : false ≡ true = idle in cc)) (λ ports idle. refl) config

asks_by : (t : ℕ) (lag : Option Lag) (post : Post) → LagsRight t lag post
    → asks (config_of post.unit) (late_book true t lag post.unit) post.unit.mask ≡ seen_asks post.unit
asks_by t None post may = refl
asks_by t (Some lag) post may = asks_idle (config_of post.unit) post.unit.book _ _ post.unit.mask may.idle

asks_late_what : (t : ℕ) (w : What) → LagsWhat t w → asks_what (late_what true t w) ≡ asks_what w
asks_late_what t (Scheduler post) may = asks_by t post.lag post may
asks_late_what t (Thread r) may = refl

asks_true : (t : ℕ) (o : Option Shown) → LagsIn t o → asks_in (late true t o) ≡ asks_in o
asks_true t None may = refl
asks_true t (Some s) may = asks_late_what t s.what may

-- who is behind asks as is stored
pub asks_late : (b : Bool) (t : ℕ) (o : Option Shown) → (b ≡ true → LagsIn t o) → asks_in (late b t o) ≡ asks_in o
asks_late false t o may = ap asks_in (late_flat t o)
asks_late true t o may = asks_true t o (may refl)

-- ---- ticks

rows_add : (b : Ledger) (row : TickRow) (n m : ℕ) → with_rows (with_rows b row n) row m ≡ with_rows b row (n + m)
rows_add b row n m =
    let rows : (b.rows ++ replicate n row) ++ replicate m row ≡ b.rows ++ replicate (n + m) row =
    append_assoc b.rows (replicate n row) (replicate m row) ∙ ap (λ l. b.rows ++ l)
    (replicate-append-replicate n m row) in
    let spare : b.spare_ticks - n - m ≡ b.spare_ticks - (n + m) = omega arith in
    λ i. record b { rows = rows i; spare_ticks = spare i }

-- a box that is not granted, after so many ticks and then some more
pub leapt_add : (choice : Option ℕ) (n m : ℕ) (unit : Seen)
    → leapt m choice (leapt n choice unit) ≡ leapt (n + m) choice unit
leapt_add choice n m unit =
    ap (λ (b : Ledger). record unit { book = b }) (rows_add unit.book (tick_row unit.mask unit.grant choice) n m)

up_lag : (b : Bool) (t : ℕ) (w : What) → b ≡ true → LagsWhat t (late_what b t w)
up_lag b t (Scheduler post) on = rw on tt
up_lag b t (Thread r) on = tt

-- who is shown is not behind
pub lags_late : (t : ℕ) (o : Option Shown) → LagsIn t (late true t o)
lags_late t None = tt
lags_late t (Some s) = up_lag true t s.what refl

lag_low : (t at : ℕ) (lag : Option Lag) (post : Post) → LagsRight t lag post → lag_place lag ≡ Some at → at < 64
lag_low t at None post may is = cc
lag_low t at (Some lag) post may is = (let e : lag.at ≡ at = cc in subst (λ n. n < 64) e may.within)

low_what : (t at : ℕ) (w : What) → LagsWhat t w → place_what w ≡ Some at → at < 64
low_what t at (Scheduler post) may is = lag_low t at post.lag post may is
low_what t at (Thread r) may is = cc

-- the place of who is behind has a bit
pub lag_within : (t at : ℕ) (o : Option Shown) → LagsIn t o → behind_at o ≡ Some at → at < 64
lag_within t at None may is = cc
lag_within t at (Some s) may is = low_what t at s.what may is

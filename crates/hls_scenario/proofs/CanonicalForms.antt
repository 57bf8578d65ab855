-- A scenario within the grammar has lines that can be printed.
use Rattle.std.proofs.Common.{◌≡◌, ℕ, ◌<◌, ◌≤◌, Bool, true, false, List, [], ◌∷◌, ◌++◌}
use Rattle.std.proofs.Common.{refl, arith, cond}
use Rattle.std.specs.Prelude.{◌&&◌, ◌==◌, nat_le, codes, decimal, map, Option, Some, None}
use Rattle.std.specs.List.{AllByRecursion, list_all}
use Rattle.std.proofs.lemmas.Bool.{leb-true}
use Rattle.hls_text.specs.Lines.{Text}
use Rattle.hls_chron.specs.Ranges.{most_ticks}
use Rattle.hls_chron.specs.declared.plain.Config.{Config}
use Rattle.hls_chron.specs.declared.plain.Sharing.{Sharing}
use Rattle.hls_chron.specs.Kinds.{by_shares}
use Rattle.hls_chron.proofs.ConfigLaws.{by_kind}
use Rattle.hls_chron.specs.declared.plain.Terms.{Terms}
use Rattle.hls_chron.specs.declared.plain.Terms.TheVariants as terms
use Rattle.hls_guarantee.specs.declared.Guarantee.{Guarantee}
use Rattle.hls_guarantee.specs.declared.Guarantee.TheVariants.{All, Null, Resb, Resc, Psbe}
use Rattle.hls_guarantee.specs.Limits.{IsNarrow, IsReservation}
use Rattle.hls_scenario.specs.declared.scenario.Spot.{Spot}
use Rattle.hls_scenario.specs.declared.scenario.Spot.TheVariants as spots
use Rattle.hls_scenario.specs.declared.scenario.Perch.{Perch}
use Rattle.hls_scenario.specs.declared.scenario.Command.{Command}
use Rattle.hls_scenario.specs.declared.scenario.Command.TheVariants.{Load, Thread, End, Unload, Move, Wake, Block}
use Rattle.hls_scenario.specs.declared.scenario.Item.{Item}
use Rattle.hls_scenario.specs.declared.scenario.Scenario.{Scenario}
use Rattle.hls_scenario.specs.Forms.{the, number, pair_forms, guarantee_forms, terms_forms}
use Rattle.hls_scenario.specs.Forms.{config_forms, quantum_forms, spot_forms, perch_forms}
use Rattle.hls_scenario.specs.Forms.{more_perches_forms, perches_forms, burst_forms, waking_forms, command_forms}
use Rattle.hls_scenario.specs.Forms.{item_forms, depth_lines, scenario_lines}
use Rattle.hls_scenario.specs.Grammar.{IsTerms, IsSpot, IsPerch, IsConfig, IsLoad, IsBurst, IsWaking, IsCommand}
use Rattle.hls_scenario.specs.Grammar.{AreItems, IsDepth, IsScenario}
use Rattle.hls_scenario.proofs.CanonicalLines.{Sign, IsWord, all_append, decimal_word}
use Rattle.hls_scenario.proofs.CanonicalPrinting.{load_perches}
use Rattle.hls_scenario.proofs.Loads.{load_config}
use Rattle.hls_scenario.proofs.CanonicalWords.{IsPrintable, ArePrintable, IsPrintableLine, ArePrintableLines}
use Rattle.hls_scenario.proofs.CanonicalWords.{name_word}

-- ---- the words of the language

abbrev is_word : Text → Bool
is_word [] = false
is_word (b ∷ bs) = list_all (λ c. nat_le 36 c && nat_le c 126) (b ∷ bs)

both : (a b : Bool) → (a && b) ≡ true → (a ≡ true) × (b ≡ true)
both true b e = (refl, e)
both false b e = absurd cc

sign_by : (b : ℕ) → (nat_le 36 b && nat_le b 126) ≡ true → Sign b
sign_by b e =
    let h = both (nat_le 36 b) (nat_le b 126) e in
    record { low = leb-true 36 b h.0; high = leb-true b 126 h.1 }

signs_by : (bs : Text) → list_all (λ c. nat_le 36 c && nat_le c 126) bs ≡ true → AllByRecursion Sign bs
signs_by [] e = tt
signs_by (b ∷ bs) e =
    let h = both (nat_le 36 b && nat_le b 126) _ e in
    (sign_by b h.0, signs_by bs h.1)

-- a word of which one can see it
word : (w : Text) → is_word w ≡ true → IsWord w
word [] e = absurd (let f : false ≡ true = e in cc)
word (b ∷ bs) e = signs_by (b ∷ bs) e

small_word : (n : ℕ) → n ≤ 1000000 → IsWord (decimal n)
small_word n le = decimal_word n (omega arith)

-- ---- the forms of a command

ticks_words : (w : Text) (x y : ℕ) → is_word w ≡ true → IsReservation x y → ArePrintable (pair_forms w x y)
ticks_words w x y e is =
    let fits : x ≤ y = is.fits in
    let size : y ≤ 20000 = is.size in
    (word w e, (small_word x (omega arith), (small_word y (omega arith), tt)))

guarantee_printable : (g : Guarantee) → IsNarrow g → ArePrintable (guarantee_forms g)
guarantee_printable All is = (word (codes "ALL") refl, tt)
guarantee_printable Null is = (word (codes "NULL") refl, tt)
guarantee_printable (Resb true x y) is = ticks_words (codes "RESBH") x y refl is
guarantee_printable (Resb false x y) is = ticks_words (codes "RESBS") x y refl is
guarantee_printable (Resc true x y) is = ticks_words (codes "RESCH") x y refl is
guarantee_printable (Resc false x y) is = ticks_words (codes "RESCS") x y refl is
guarantee_printable (Psbe s d) is = (word (codes "PSBE") refl, (is.rate, (is.error, tt)))

res_words : (w : Text) (x y : ℕ) → is_word w ≡ true → (1 ≤ x) × (x ≤ y) × (y ≤ 10000)
    → ArePrintable (the (codes "res") ∷ number x ∷ number y ∷ the w ∷ [])
res_words w x y e is =
    let fits : x ≤ y = is.1 in
    let size : y ≤ 10000 = is.2 in (
      word (codes "res") refl,
      (small_word x (omega arith), (small_word y (omega arith), (word w e, tt))),
    )

number_words : (w : Text) (n : ℕ) → is_word w ≡ true → n ≤ 1000000 → ArePrintable (the w ∷ number n ∷ [])
number_words w n e le = (word w e, (small_word n le, tt))

terms_printable : (terms : Terms) → IsTerms terms → ArePrintable (terms_forms terms)
terms_printable terms.Cpu is = absurd is
terms_printable (terms.Prio priority) is = number_words (codes "prio") priority refl (omega arith)
terms_printable (terms.Res true x y) is = res_words (codes "hard") x y refl is
terms_printable (terms.Res false x y) is = res_words (codes "soft") x y refl is
terms_printable (terms.Weight weight) is = number_words (codes "weight") weight refl (let le = is.1 in
    omega arith)
terms_printable (terms.Slots places) is = number_words (codes "slots") places refl (let le = is.1 in
    omega arith)
terms_printable terms.Turn is = (word (codes "turn") refl, tt)
terms_printable terms.Sole is = (word (codes "sole") refl, tt)

spot_printable : (spot : Spot) → IsSpot spot → ArePrintable (spot_forms spot)
spot_printable spots.Cpu is = (word (codes "cpu") refl, tt)
spot_printable (spots.Under sched terms) is = (name_word sched is.0, terms_printable terms is.1)

as_printable : (g : Guarantee) → IsNarrow g → ArePrintable (the (codes "as") ∷ guarantee_forms g)
as_printable g is = (word (codes "as") refl, guarantee_printable g is)

perch_printable : (perch : Perch) → IsPerch perch → ArePrintable (perch_forms perch)
perch_printable perch is =
    all_append IsPrintable (spot_forms perch.spot) (the (codes "as") ∷ guarantee_forms perch.want)
    (spot_printable perch.spot is.spot) (as_printable perch.want is.want)

more_printable : (perches : List Perch) → AllByRecursion IsPerch perches
    → ArePrintable (more_perches_forms perches)
more_printable [] are = tt
more_printable (perch ∷ perches) are = (
  word (codes ",") refl,
  all_append IsPrintable (perch_forms perch) (more_perches_forms perches) (perch_printable perch are.0)
      (more_printable perches are.1),
)

perches_printable : (perches : List Perch) → AllByRecursion IsPerch perches
    → ArePrintable (perches_forms perches)
perches_printable [] are = tt
perches_printable (perch ∷ perches) are =
    all_append IsPrintable (perch_forms perch) (more_perches_forms perches) (perch_printable perch are.0)
    (more_printable perches are.1)

quantum_printable : (version quantum : ℕ) → quantum ≤ 100 → ArePrintable (quantum_forms version quantum)
quantum_printable version quantum fits =
    elim (version == 1) as (λ b. ArePrintable (cond b [] (number quantum ∷ []))) [
      | true ↦ tt
      | false ↦ (small_word quantum (omega arith), tt)
    ]

shares_printable : (version : ℕ) (s : Sharing) → IsConfig version (by_shares s)
    → ArePrintable (config_forms version (by_shares s))
shares_printable version s is =
    let ranges = is.0 in
    let fits : s.total ≤ 100 = ranges.0.1 in
    let few : s.most ≤ 20 = ranges.1.1 in (
      word (codes "sfq") refl,
      (
        small_word s.total (omega arith),
        (small_word s.most (omega arith), quantum_printable version s.quantum ranges.2.1),
      ),
    )

config_printable : (version : ℕ) (config : Config) → IsConfig version config
    → ArePrintable (config_forms version config)
config_printable version =
    by_kind (λ config. IsConfig version config → ArePrintable (config_forms version config)) (λ is. tt)
    (λ is. (word (codes "fp") refl, tt)) (λ is. (word (codes "edf") refl, tt)) (shares_printable version)
    (λ quantum is. let fits : quantum ≤ 100 = is.0.1 in number_words (codes "rr") quantum refl (omega arith))
    (λ frame is. let fits : frame ≤ 1000 = is.0.1 in number_words (codes "wheel") frame refl (omega arith))
    (λ ports is. (word (codes "join") refl, tt))

load_printable : (version : ℕ) (config : Config) (perches : List Perch) → IsLoad version config perches
    → ArePrintable (config_forms version config ++ the (codes "on") ∷ perches_forms perches)
load_printable version config perches is =
    all_append IsPrintable (config_forms version config) (the (codes "on") ∷ perches_forms perches)
    (config_printable version config (load_config version config perches is))
    (word (codes "on") refl, perches_printable perches (load_perches version config perches is))

burst_printable : (burst : Option ℕ) → IsBurst burst → ArePrintable (burst_forms burst)
burst_printable None is = tt
burst_printable (Some ticks) is =
    let fits : ticks ≤ 100000 = is.1 in number_words (codes "for") ticks refl (omega arith)

waking_printable : (version : ℕ) (every burst : Option ℕ) → IsWaking version every burst
    → ArePrintable (waking_forms every burst)
waking_printable version None burst is = burst_printable burst is
waking_printable version (Some period) None is = absurd is
waking_printable version (Some period) (Some ticks) is =
    let often : period ≤ 100000 = is.1.1 in
    let fits : ticks ≤ 100000 = is.2.1 in (
      word (codes "every") refl,
      (small_word period (omega arith), number_words (codes "burst") ticks refl (omega arith)),
    )

pub command_printable : (version : ℕ) (command : Command) → IsCommand version command
    → ArePrintable (command_forms version command)
command_printable version (Load name config perches) is =
    (word (codes "load") refl, (name_word name is.0, load_printable version config perches is.1))
command_printable version (Thread name perch) is = (
  word (codes "thread") refl,
  (name_word name is.0, (word (codes "on") refl, perch_printable perch is.1)),
)
command_printable version (End name) is = (word (codes "end") refl, (name_word name is, tt))
command_printable version (Unload name) is = (word (codes "unload") refl, (name_word name is, tt))
command_printable version (Move name perch) is = (
  word (codes "move") refl,
  (name_word name is.0, (word (codes "to") refl, perch_printable perch is.1)),
)
command_printable version (Wake name every burst) is =
    (word (codes "wake") refl, (name_word name is.0, waking_printable version every burst is.1))
command_printable version (Block name) is = (word (codes "block") refl, (name_word name is, tt))

-- ---- the lines of a scenario

items_printable : (version horizon last : ℕ) (items : List Item) → horizon ≤ 1000000
    → AreItems version horizon last items → ArePrintableLines (map (item_forms version) items)
items_printable version horizon last [] fits are = tt
items_printable version horizon last (item ∷ items) fits are =
    let below : item.tick < horizon = are.2 in (
      (
        word (codes "at") refl,
        (small_word item.tick (omega arith), command_printable version item.command are.0),
      ),
      items_printable version horizon item.tick items fits are.3,
    )

depth_printable : (depth : Option ℕ) → IsDepth depth → ArePrintableLines (depth_lines depth)
depth_printable None is = tt
depth_printable (Some depth) is = (number_words (codes "depth") depth refl (omega arith), tt)

-- no version has a longer horizon
pub most_ticks_fit : (version : ℕ) → most_ticks version ≤ 1000000
most_ticks_fit version = elim (version == 1) as (λ b. cond b 100000 1000000 ≤ 1000000) [
  | true ↦ omega arith
  | false ↦ omega arith
]

pub scenario_printable : (s : Scenario) → IsScenario s → ArePrintableLines (scenario_lines s)
scenario_printable s is =
    let version : s.version ≤ 2 = is.version.1 in
    let within : s.horizon ≤ most_ticks s.version = is.horizon.1 in
    let most = most_ticks_fit s.version in
    let fits : s.horizon ≤ 1000000 = omega arith in (
      (word (codes "hls") refl, (small_word s.version (omega arith), tt)),
      (
        number_words (codes "horizon") s.horizon refl fits,
        all_append IsPrintableLine (depth_lines s.depth) (map (item_forms s.version) s.items)
            (depth_printable s.depth is.depth)
            (items_printable s.version s.horizon 0 s.items fits is.items),
      ),
    )

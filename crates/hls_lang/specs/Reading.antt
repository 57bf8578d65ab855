-- Reading an item from the left.
use Rattle.std.specs.Prelude.{ℕ, Bool, true, false, List, [], ◌∷◌, ◌++◌, length, codes, Option, Some}
use Rattle.std.specs.Prelude.{None, Result, Ok, Err, ◌==◌, ◌&&◌, not, drop, if◌then◌else◌}
use Rattle.std.specs.List.{list_any}
use Rattle.std.specs.Str.{bytes_eq}
use Rattle.hls_text.specs.Lines.{Text}
use Rattle.hls_chron.specs.Name.{is_name}
use Rattle.hls_chron.specs.declared.plain.Config.{Config}
use Rattle.hls_chron.specs.declared.plain.Config.TheVariants as configs
use Rattle.hls_chron.specs.declared.plain.Terms.{Terms}
use Rattle.hls_chron.specs.declared.plain.Terms.TheVariants as terms
use Rattle.hls_guarantee.specs.declared.Guarantee.{Guarantee}
use Rattle.hls_guarantee.specs.declared.Guarantee.TheVariants.{All, Null, Resb, Resc, Psbe}
use Rattle.hls_lang.specs.declared.fault.Cause.{Cause}
use Rattle.hls_lang.specs.declared.fault.Cause.TheVariants as causes
use Rattle.hls_scenario.specs.declared.scenario.Spot.{Spot}
use Rattle.hls_scenario.specs.declared.scenario.Spot.TheVariants as spots
use Rattle.hls_scenario.specs.declared.scenario.Perch.{Perch}
use Rattle.hls_scenario.specs.declared.scenario.Command.{Command}
use Rattle.hls_scenario.specs.declared.scenario.Command.TheVariants.{Load, Thread, End, Unload, Move, Wake, Block}
use Rattle.hls_scenario.specs.declared.scenario.Item.{Item}
use Rattle.hls_lang.specs.Words.{◌>>=◌, Found, token_at, no_more, word_at, name_at, number_at, tick_at}
use Rattle.hls_lang.specs.Words.{pair_at, fraction_at, rate_at}

-- ---- guarantees

unfoldable pub reservation_at : (ℕ → ℕ → Guarantee) → List Text → Found Guarantee
reservation_at make ts = pair_at 20000 ts >>= λ p. Ok (make p.0 p.1, p.2)

unfoldable pub share_at : List Text → Found Guarantee
share_at ts = rate_at ts >>= λ s. fraction_at s.1 >>= λ d. Ok (Psbe s.0 d.0, d.1)

-- the guarantee that begins with this word
unfoldable pub guarantee_by : Text → List Text → Found Guarantee
guarantee_by word ts =
    if bytes_eq word (codes "ALL") then Ok (All, ts)
    else (if bytes_eq word (codes "NULL") then Ok (Null, ts)
    else (if bytes_eq word (codes "RESBH") then reservation_at (λ x y. Resb true x y) ts
    else (if bytes_eq word (codes "RESBS") then reservation_at (λ x y. Resb false x y) ts
    else (if bytes_eq word (codes "RESCH") then reservation_at (λ x y. Resc true x y) ts
    else (if bytes_eq word (codes "RESCS") then reservation_at (λ x y. Resc false x y) ts
    else (if bytes_eq word (codes "PSBE") then share_at ts else Err causes.Word))))))

unfoldable pub guarantee_at : List Text → Found Guarantee
guarantee_at ts = token_at ts >>= λ w. guarantee_by w.0 w.1

-- ---- terms and configurations

abbrev pub hardness_test : Text × List Text → Found Bool
hardness_test w = if bytes_eq w.0 (codes "hard") then Ok (true, w.1)
    else (if bytes_eq w.0 (codes "soft") then Ok (false, w.1) else Err causes.Word)

unfoldable pub hardness_at : List Text → Found Bool
hardness_at ts = token_at ts >>= hardness_test

unfoldable pub budget_at : List Text → Found Terms
budget_at ts = pair_at 10000 ts >>= λ p. hardness_at p.2 >>= λ h. Ok (terms.Res h.0 p.0 p.1, h.1)

unfoldable pub numbered_terms_at : (low high : ℕ) → (ℕ → Terms) → List Text → Found Terms
numbered_terms_at low high make ts = number_at low high ts >>= λ n. Ok (make n.0, n.1)

unfoldable pub terms_by : Text → List Text → Found Terms
terms_by word ts =
    if bytes_eq word (codes "prio") then numbered_terms_at 0 31 (λ p. terms.Prio p) ts
    else (if bytes_eq word (codes "res") then budget_at ts
    else (if bytes_eq word (codes "weight") then numbered_terms_at 1 20 (λ w. terms.Weight w) ts
    else (if bytes_eq word (codes "slots") then numbered_terms_at 1 1000 (λ k. terms.Slots k) ts
    else (if bytes_eq word (codes "turn") then Ok (terms.Turn, ts)
    else (if bytes_eq word (codes "sole") then Ok (terms.Sole, ts) else Err causes.Word)))))

unfoldable pub terms_at : List Text → Found Terms
terms_at ts = token_at ts >>= λ w. terms_by w.0 w.1

-- fair queueing's quantum, which version 1 has no word for
unfoldable pub quantum_at : (version : ℕ) → List Text → Found ℕ
quantum_at version ts = if version == 1 then Ok (1, ts) else number_at 1 100 ts

unfoldable pub shares_at : (version : ℕ) → List Text → Found Config
shares_at version ts = number_at 1 100 ts >>= λ t. number_at 1 20 t.1 >>= λ m. quantum_at version m.1 >>= λ q.
    Ok (configs.Sfq t.0 m.0 q.0, q.1)

unfoldable pub numbered_config_at : (low high : ℕ) → (ℕ → Config) → List Text → Found Config
numbered_config_at low high make ts = number_at low high ts >>= λ n. Ok (make n.0, n.1)

-- a configuration but a join's
unfoldable pub config_by : (version : ℕ) → Text → List Text → Found Config
config_by version word ts =
    if bytes_eq word (codes "fp") then Ok (configs.Fp, ts)
    else (if bytes_eq word (codes "edf") then Ok (configs.Edf, ts)
    else (if bytes_eq word (codes "sfq") then shares_at version ts
    else (if bytes_eq word (codes "rr") then numbered_config_at 1 100 (λ q. configs.Rr q) ts
    else (if bytes_eq word (codes "wheel") then numbered_config_at 1 1000 (λ f. configs.Wheel f) ts
    else Err causes.Word))))

-- ---- places

unfoldable pub under_at : Text → List Text → Found Spot
under_at sched ts = terms_at ts >>= λ t. Ok (spots.Under sched t.0, t.1)

unfoldable pub spot_by : Text → List Text → Found Spot
spot_by word ts = if bytes_eq word (codes "cpu") then Ok (spots.Cpu, ts)
    else (if is_name word then under_at word ts else Err causes.Word)

unfoldable pub spot_at : List Text → Found Spot
spot_at ts = token_at ts >>= λ w. spot_by w.0 w.1

-- what is wanted at a spot
unfoldable pub wanted_at : Spot → List Text → Found Perch
wanted_at spot ts = word_at (codes "as") ts >>= λ r. guarantee_at r >>= λ g.
    Ok (record { spot = spot; want = g.0 }, g.1)

unfoldable pub perch_at : List Text → Found Perch
perch_at ts = spot_at ts >>= λ s. wanted_at s.0 s.1

-- a perch that ends the line
unfoldable pub last_perch_at : List Text → Result Perch Cause
last_perch_at ts = perch_at ts >>= λ p. no_more p.1 >>= λ u. Ok p.0

-- ---- the perches of a join

abbrev pub is_at : Text → Spot → Bool
is_at sched spots.Cpu = false
is_at sched (spots.Under other terms) = bytes_eq other sched

-- one of the perches is on this scheduler
abbrev pub is_used : Text → List Perch → Bool
is_used sched perches = list_any (λ perch. is_at sched perch.spot) perches

abbrev pub fresh_test : List Perch → Text × List Text → Found Text
fresh_test perches p = if is_used p.0 perches then Err causes.Name else Ok p

unfoldable pub fresh_name_at : List Perch → List Text → Found Text
fresh_name_at perches ts = name_at ts >>= fresh_test perches

-- a perch at a scheduler that no earlier perch is at
unfoldable pub port_at : List Perch → List Text → Found Perch
port_at perches ts = fresh_name_at perches ts >>= λ n. under_at n.0 n.1 >>= λ s. wanted_at s.0 s.1

abbrev pub Ports : Type 0
Ports = Found (List Perch)

unfoldable pub next_port_at : List Perch → List Text → Ports
next_port_at perches ts = port_at perches ts >>= λ p. Ok (perches ++ p.0 ∷ [], p.1)

unfoldable pub comma_port_at : List Perch → List Text → Ports
comma_port_at perches ts = word_at (codes ",") ts >>= next_port_at perches

-- a further perch, unless the line ends
unfoldable pub fourth_port_at : List Perch → List Text → Result (List Perch) Cause
fourth_port_at perches [] = Ok perches
fourth_port_at perches (t ∷ ts) = comma_port_at perches (t ∷ ts) >>= λ p. no_more p.1 >>= λ u. Ok p.0

unfoldable pub third_port_at : List Perch → List Text → Result (List Perch) Cause
third_port_at perches [] = Ok perches
third_port_at perches (t ∷ ts) = comma_port_at perches (t ∷ ts) >>= λ p. fourth_port_at p.0 p.1

unfoldable pub ports_at : List Text → Result (List Perch) Cause
ports_at ts = next_port_at [] ts >>= λ p. comma_port_at p.0 p.1 >>= λ q. third_port_at q.0 q.1

-- ---- commands

unfoldable pub join_at : Text → List Text → Result Command Cause
join_at name ts = word_at (codes "on") ts >>= λ r. ports_at r >>= λ ports.
    Ok (Load name (configs.Join (length ports)) ports)

unfoldable pub one_perch_at : Text → Config → List Text → Result Command Cause
one_perch_at name config ts = word_at (codes "on") ts >>= λ r. last_perch_at r >>= λ p.
    Ok (Load name config (p ∷ []))

unfoldable pub load_by : (version : ℕ) → Text → Text → List Text → Result Command Cause
load_by version name word ts = if bytes_eq word (codes "join") then join_at name ts
    else (config_by version word ts >>= λ c. one_perch_at name c.0 c.1)

unfoldable pub load_at : (version : ℕ) → List Text → Result Command Cause
load_at version ts = name_at ts >>= λ n. token_at n.1 >>= λ w. load_by version n.0 w.0 w.1

unfoldable pub thread_at : List Text → Result Command Cause
thread_at ts = name_at ts >>= λ n. word_at (codes "on") n.1 >>= λ r. last_perch_at r >>= λ p. Ok
    (Thread n.0 p)

unfoldable pub move_at : List Text → Result Command Cause
move_at ts = name_at ts >>= λ n. word_at (codes "to") n.1 >>= λ r. last_perch_at r >>= λ p. Ok (Move n.0 p)

-- a name that ends the line
unfoldable pub last_name_at : List Text → Result Text Cause
last_name_at ts = name_at ts >>= λ n. no_more n.1 >>= λ u. Ok n.0

unfoldable pub burst_at : List Text → Result (Option ℕ) Cause
burst_at [] = Ok None
burst_at (t ∷ ts) = word_at (codes "for") (t ∷ ts) >>= λ r. number_at 1 100000 r >>= λ n.
    no_more n.1 >>= λ u. Ok (Some n.0)

-- a period, and behind it a burst that ends the line
unfoldable pub every_at : List Text → Result (Option ℕ × Option ℕ) Cause
every_at ts = number_at 1 100000 ts >>= λ p. word_at (codes "burst") p.1 >>= λ r. number_at 1 100000 r >>= λ n.
    no_more n.1 >>= λ u. Ok (Some p.0, Some n.0)

-- how a wake wakes: version 1 has no word for a period
abbrev pub is_periodic : (version : ℕ) → List Text → Bool
is_periodic version [] = false
is_periodic version (t ∷ ts) = not (version == 1) && bytes_eq t (codes "every")

unfoldable pub waking_at : (version : ℕ) → List Text → Result (Option ℕ × Option ℕ) Cause
waking_at version ts = if is_periodic version ts then every_at (drop 1 ts)
    else (burst_at ts >>= λ b. Ok (None, b))

unfoldable pub wake_at : (version : ℕ) → List Text → Result Command Cause
wake_at version ts = name_at ts >>= λ n. waking_at version n.1 >>= λ w. Ok (Wake n.0 w.0 w.1)

unfoldable pub command_by : (version : ℕ) → Text → List Text → Result Command Cause
command_by version word ts =
    if bytes_eq word (codes "load") then load_at version ts
    else (if bytes_eq word (codes "thread") then thread_at ts
    else (if bytes_eq word (codes "end") then (last_name_at ts >>= λ n. Ok (End n))
    else (if bytes_eq word (codes "unload") then (last_name_at ts >>= λ n. Ok (Unload n))
    else (if bytes_eq word (codes "move") then move_at ts
    else (if bytes_eq word (codes "wake") then wake_at version ts
    else (if bytes_eq word (codes "block") then (last_name_at ts >>= λ n. Ok (Block n))
    else Err causes.Word))))))

unfoldable pub command_at : (version : ℕ) → List Text → Result Command Cause
command_at version ts = token_at ts >>= λ w. command_by version w.0 w.1

-- an item, all of a line
unfoldable pub item_at : (version horizon last : ℕ) → List Text → Result Item Cause
item_at version horizon last ts = word_at (codes "at") ts >>= λ r. tick_at horizon last r >>= λ t.
    command_at version t.1 >>= λ command. Ok (record { tick = t.0; command = command })

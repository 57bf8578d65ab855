-- Clap takes words that stand as those of a question.
use Rattle.std.proofs.Common.{codes, true, false, List, [], ◌∷◌, ◌++◌, ◌≡◌, Bool, ◌&&◌, refl, ap, ap₂, ◌∙◌, inl, inr}
use Rattle.std.specs.Prelude.{Option, Some, None, fold}
use Rattle.std.specs.List.{AllByRecursion}
use Rattle.clap.specs.Words.{Row, Text, takes}
use Rattle.clap.specs.Simple.{Shape, built_leaf, inherited, built, filled, names_of}
use Rattle.clap.specs.Takes.{level_passes, settle_passes, turn_passes, walk_passes}
use Rattle.clap.specs.Walk.{Names, Walk, nothing_held, used, walked}
use Rattle.hls_offer_words.specs.Inside.Commands as commands
use Rattle.hls_offer_words.specs.Inside.Shapes.{HasShape, IsAsking, IsPlain, IsPlainIfAny, options_words}
use Rattle.hls_offer_words.proofs.Walking.{rules, rows_with, standing, begun, passes, first_step, next_step, Stands}
use Rattle.hls_offer_words.proofs.Walking.{begun_stands, standing_stands, tick_stated, depth_stated, depth_behind}
use Rattle.hls_offer_words.proofs.Walking.{no_dashes, no_long, no_short, no_subcommand, behind_first}
use Rattle.hls_offer_words.proofs.Walking.{option_open, option_done, entered_at, walk_tick, walk_depth, walk_both}

abbrev shape : Text → Shape
shape name = built_leaf (inherited commands.hlsoffer.top (commands.asking name).top)

abbrev Turns : (name : Text) → Walk → Text → Type 0
Turns name w word = turn_passes (shape name) [] w word ≡ true

-- ---- plain words

begun_turns : (name word : Text) → IsPlain word → Turns name begun word
begun_turns name word plain =
    rw (no_subcommand begun.waiting word, no_dashes word plain, no_long word plain, no_short word plain) refl

standing_turns : (name : Text) (done : List Text) (last word : Text) → IsPlain word
    → Turns name (standing done last) word
standing_turns name done last word plain =
    rw (
      no_subcommand (standing done last).waiting word,
      no_dashes word plain,
      no_long word plain,
      no_short word plain,
    ) refl

open_turns : (name id : Text) (rows : List Row) (word : Text) → IsPlain word → Turns name (option_open id rows) word
open_turns name id rows word plain =
    rw (
      no_subcommand (option_open id rows).waiting word,
      no_dashes word plain,
      no_long word plain,
      no_short word plain,
    ) refl

abbrev Passing : (name : Text) → Walk → List Text → Type 0
Passing name w words = walk_passes (shape name) [] w words ≡ true

both_true : (a b : Bool) → a ≡ true → b ≡ true → (a && b) ≡ true
both_true a b e f = ap₂ (λ (x y : Bool). x && y) e f

turns_on : (name : Text) (w next : Walk) (word : Text) (words : List Text) → Turns name w word
    → walked rules [] w word ≡ next → Passing name next words → Passing name w (word ∷ words)
unfolding walk_passes
turns_on name w next word words turn step rest =
    both_true (turn_passes (shape name) [] w word) (walk_passes (shape name) [] (walked rules [] w word) words) turn
    (ap (λ (v : Walk). walk_passes (shape name) [] v words) step ∙ rest)

no_more : (name : Text) (w : Walk) → Passing name w []
unfolding walk_passes
no_more name w = refl

plain_pass : (name : Text) (done : List Text) (last : Text) (words tail : List Text) → AllByRecursion IsPlain words
    → ((before : List Text) (pending : Text) → Passing name (standing before pending) tail)
    → Passing name (standing done last) (words ++ tail)
plain_pass name done last [] tail plain rest = rest done last
plain_pass name done last (word ∷ words) tail (first, plain) rest =
    turns_on name (standing done last) (standing (done ++ last ∷ []) word) word (words ++ tail)
    (standing_turns name done last word first) (next_step done last word first)
    (plain_pass name (done ++ last ∷ []) word words tail plain rest)

-- ---- options

-- an option may come here
record MayCome (name : Text) (words : List Text) (w : Walk) : Type 0 where
  stands : Stands words w
  tick : Turns name w (codes "--at")
  depth : Turns name w (codes "--depth")

begun_may : (name : Text) → MayCome name [] begun
begun_may name = record { stands = begun_stands; tick = refl; depth = refl }

standing_may : (name : Text) (done : List Text) (last : Text)
    → MayCome name (done ++ last ∷ []) (standing done last)
standing_may name done last = record { stands = standing_stands done last; tick = refl; depth = refl }

depth_turns : (name : Text) (words : List Text) (value : Text)
    → Turns name (option_done (codes "at") (rows_with words) value) (codes "--depth")
depth_turns name [] value = refl
depth_turns name (word ∷ words) value = refl

options_pass : (name : Text) (words : List Text) (w : Walk) (at depth : Option Text) → MayCome name words w
    → IsPlainIfAny at → IsPlainIfAny depth → Passing name w (options_words at depth)
options_pass name words w None None may plain also = no_more name w
options_pass name words w (Some value) None may plain also =
    turns_on name w (option_open (codes "at") (rows_with words)) (codes "--at") (value ∷ []) may.tick may.stands.tick
    (turns_on name (option_open (codes "at") (rows_with words)) (option_done (codes "at") (rows_with words) value)
    value [] (open_turns name (codes "at") (rows_with words) value plain) (tick_stated (rows_with words) value plain)
    (no_more name (option_done (codes "at") (rows_with words) value)))
options_pass name words w None (Some value) may plain also =
    turns_on name w (option_open (codes "depth") (rows_with words)) (codes "--depth") (value ∷ []) may.depth
    may.stands.depth
    (turns_on name (option_open (codes "depth") (rows_with words))
    (option_done (codes "depth") (rows_with words) value) value []
    (open_turns name (codes "depth") (rows_with words) value also) (depth_stated (rows_with words) value also)
    (no_more name (option_done (codes "depth") (rows_with words) value)))
options_pass name words w (Some value) (Some conversions) may plain also =
    let rows = used (filled commands.at) (value ∷ []) (rows_with words) in
    turns_on name w (option_open (codes "at") (rows_with words)) (codes "--at")
    (value ∷ codes "--depth" ∷ conversions ∷ []) may.tick may.stands.tick
    (turns_on name (option_open (codes "at") (rows_with words)) (option_done (codes "at") (rows_with words) value)
    value (codes "--depth" ∷ conversions ∷ []) (open_turns name (codes "at") (rows_with words) value plain)
    (tick_stated (rows_with words) value plain)
    (turns_on name (option_done (codes "at") (rows_with words) value) (option_open (codes "depth") rows)
    (codes "--depth") (conversions ∷ []) (depth_turns name words value) (depth_behind (rows_with words) value)
    (turns_on name (option_open (codes "depth") rows) (option_done (codes "depth") rows conversions) conversions []
    (open_turns name (codes "depth") rows conversions also) (depth_stated rows conversions also)
    (no_more name (option_done (codes "depth") rows conversions)))))

-- ---- the end

abbrev Settles : Walk → Type 0
Settles w = settle_passes rules false w.held ≡ true

tick_settles : (words : List Text) (value : Text) → Settles (option_done (codes "at") (rows_with words) value)
tick_settles [] value = refl
tick_settles (word ∷ words) value = refl

depth_settles : (words : List Text) (value : Text) → Settles (option_done (codes "depth") (rows_with words) value)
depth_settles [] value = refl
depth_settles (word ∷ words) value = refl

both_settle : (words : List Text) (value conversions : Text) → Settles (option_done (codes "depth")
    (used (filled commands.at) (value ∷ []) (rows_with words)) conversions)
both_settle [] value conversions = refl
both_settle (word ∷ words) value conversions = refl

ends_settled : (words : List Text) (w : Walk) (at depth : Option Text) → Stands words w → Settles w → IsPlainIfAny at
    → IsPlainIfAny depth → Settles (fold (walked rules []) w (options_words at depth))
ends_settled words w None None stands here plain also = here
ends_settled words w (Some value) None stands here plain also =
    ap (λ (v : Walk). settle_passes rules false v.held) (walk_tick words w value stands plain)
    ∙ tick_settles words value
ends_settled words w None (Some value) stands here plain also =
    ap (λ (v : Walk). settle_passes rules false v.held) (walk_depth words w value stands also)
    ∙ depth_settles words value
ends_settled words w (Some value) (Some conversions) stands here plain also =
    ap (λ (v : Walk). settle_passes rules false v.held) (walk_both words w value conversions stands plain also)
    ∙ both_settle words value conversions

-- ---- one question

abbrev Level : (name : Text) → List Text → Type 0
Level name words = level_passes (shape name) [] nothing_held words false ≡ true

level_of : (name : Text) (words : List Text) → Passing name begun words
    → Settles (fold (walked rules []) begun words) → Level name words
level_of name words walk end = both_true
    (walk_passes (shape name) [] begun words)
    (settle_passes rules false (fold (walked rules []) begun words).held && true) walk
    (both_true (settle_passes rules false (fold (walked rules []) begun words).held) true end refl)

level : (name : Text) (behind : List Text) (at depth : Option Text) → AllByRecursion IsPlain behind
    → IsPlainIfAny at → IsPlainIfAny depth → Level name (behind ++ options_words at depth)
level name [] at depth plain tick conversions =
    level_of name (options_words at depth) (options_pass name [] begun at depth (begun_may name) tick conversions)
    (ends_settled [] begun at depth begun_stands refl tick conversions)
level name (word ∷ behind) at depth plain tick conversions =
    let tail = options_words at depth in
    let p = passes [] word behind tail plain.1 in
    level_of name (word ∷ (behind ++ tail))
    (turns_on name begun (standing [] word) word (behind ++ tail) (begun_turns name word plain.0)
    (first_step word plain.0)
    (plain_pass name [] word behind tail plain.1
    (λ before pending. options_pass name (before ++ pending ∷ []) (standing before pending) at depth
    (standing_may name before pending) tick conversions)))
    (ap (λ (w : Walk). settle_passes rules false w.held)
    (ap (λ (w : Walk). fold (walked rules []) w (behind ++ tail)) (first_step word plain.0) ∙ p.walk)
    ∙ ends_settled (p.before ++ p.pending ∷ []) (standing p.before p.pending) at depth
    (standing_stands p.before p.pending) refl tick conversions)

-- ---- the first word

abbrev names : Names
names = names_of (built commands.hlsoffer)

abbrev top : Shape
top = (built commands.hlsoffer).top

passed_on : (first : Text) (done words : List Text) → walk_passes top names (entered_at first done) words ≡ true
unfolding walk_passes walked
passed_on first done [] = refl
passed_on first done (word ∷ words) = passed_on first (done ++ word ∷ []) words

takes_offer : (words : List Text) → Level (codes "offer") words
    → takes commands.hlsoffer (codes "offer" ∷ words) ≡ true
unfolding walk_passes walked
takes_offer words level = rw (behind_first names (codes "offer") [] words, level, passed_on (codes "offer") [] words)
    refl

takes_need : (words : List Text) → Level (codes "need") words
    → takes commands.hlsoffer (codes "need" ∷ words) ≡ true
unfolding walk_passes walked
takes_need words level = rw (behind_first names (codes "need") [] words, level, passed_on (codes "need") [] words) refl

takes_spare : (words : List Text) → Level (codes "spare") words
    → takes commands.hlsoffer (codes "spare" ∷ words) ≡ true
unfolding walk_passes walked
takes_spare words level = rw (behind_first names (codes "spare") [] words, level, passed_on (codes "spare") [] words)
    refl

takes_from : (first : Text) (words : List Text) → IsAsking first → ((name : Text) → Level name words)
    → takes commands.hlsoffer (first ∷ words) ≡ true
takes_from first words (inl is) level = rw is (takes_offer words (level (codes "offer")))
takes_from first words (inr (inl is)) level = rw is (takes_need words (level (codes "need")))
takes_from first words (inr (inr is)) level = rw is (takes_spare words (level (codes "spare")))

pub takes_shape : (words : List Text) → HasShape words → takes commands.hlsoffer words ≡ true
takes_shape words s =
    ap (takes commands.hlsoffer) s.words_are
    ∙ takes_from s.first (s.behind ++ s.options) s.asking
    (λ name. ap (λ (tail : List Text). level_passes (shape name) [] nothing_held (s.behind ++ tail) false) s.are.is
    ∙ level name s.behind s.at s.depth s.plain s.are.tick s.are.conversions)

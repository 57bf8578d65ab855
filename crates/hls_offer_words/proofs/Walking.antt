-- What clap's walk makes of plain words, and of the options behind them.
use Rattle.std.proofs.Common.{codes, true, false, List, [], ◌∷◌, ◌++◌, ◌≡◌, ℕ, Bool, refl, sym, ap, ◌∙◌, inl, inr}
use Rattle.std.specs.Prelude.{Option, Some, None, ◌==◌, not, if◌then◌else◌, option_and_then, fold}
use Rattle.std.specs.List.{AllByRecursion}
use Rattle.std.specs.Str.{bytes_eq}
use Rattle.std.proofs.lemmas.List.{append-nil, append_assoc}
use Rattle.clap.specs.Lexer.{long_of, long_of_rest, short_of, short_of_rest, strip_byte}
use Rattle.clap.specs.Words.{Row, Rule, Text, is_simple}
use Rattle.clap.specs.Simple.{built, entered, filled, filled_from, names_of, subcommand_of, with_index}
use Rattle.clap.specs.Walk.{Names, rows_after, with_default, Held, Step, Waiting, Walk}
use Rattle.clap.specs.Walk.{after_step, finished, idle, nothing_held, option}
use Rattle.clap.specs.Walk.{plain_word, positional, reading_by, used, walk_from, walked}
use Rattle.clap.specs.Walk.{word_met, subcommand_met}
use Rattle.clap.specs.declared.parser.matches.ValueSource.TheVariants.{CommandLine}
use Rattle.hls_offer_words.specs.Inside.Commands as commands
use Rattle.hls_offer_words.specs.Inside.Shapes.{IsAsking, IsPlain, IsPlainIfAny, options_words, AreOptions}
use Rattle.hls_offer_words.specs.Inside.Shapes.{HasShape, Told, told, told_of}

-- the arguments of each question, as they are built
abbrev pub rules : List Rule
rules = filled_from 1 (commands.words ∷ commands.at ∷ commands.depth ∷ [])

-- ---- a plain word is no option

not_true : (b : Bool) → not b ≡ true → b ≡ false
not_true true e = absurd cc
not_true false e = refl

no_minus : (word : Text) → IsPlain word → strip_byte 45 word ≡ None
no_minus [] plain = refl
no_minus (b ∷ rest) plain =
    ap (λ (same : Bool). if same then Some rest else None) (not_true (b == 45) plain)

pub no_dashes : (word : Text) → IsPlain word → bytes_eq word (45 ∷ 45 ∷ []) ≡ false
no_dashes [] plain = refl
no_dashes (b ∷ rest) plain = rw (not_true (b == 45) plain) refl

pub no_long : (word : Text) → IsPlain word → long_of word ≡ None
no_long word plain = ap (λ (found : Option Text). option_and_then long_of_rest (option_and_then (strip_byte 45) found))
    (no_minus word plain)

pub no_short : (word : Text) → IsPlain word → short_of word ≡ None
no_short word plain = ap (λ (found : Option Text). option_and_then short_of_rest found) (no_minus word plain)

pub no_subcommand : (waiting : Waiting) (word : Text) → subcommand_met [] waiting word ≡ None
no_subcommand idle word = refl
no_subcommand (option id) word = refl
no_subcommand positional word = refl

pub plain_met : (waiting : Waiting) (position : ℕ) (word : Text) (h : Held) → IsPlain word
    → word_met rules [] false waiting position word h ≡ plain_word rules waiting word h
plain_met waiting position word h plain =
    rw (no_subcommand waiting word, no_dashes word plain, no_long word plain, no_short word plain) refl

-- ---- where the walk stands behind plain words

abbrev words_row : List Text → Row
words_row values = record {
  id = codes "words";
  values = values;
  count = None;
  source = Some CommandLine;
  reading = reading_by (filled commands.words);
}

abbrev pub rows_with : List Text → List Row
rows_with [] = []
rows_with (word ∷ words) = words_row (word ∷ words) ∷ []

-- the last plain word is pending
abbrev pub standing : (done : List Text) (last : Text) → Walk
standing done last = record {
  held = record { rows = rows_with done; pending = Some (codes "words", last ∷ []); skip = 0 };
  waiting = positional;
  position = 1;
  is_trailing = false;
  stopped = None;
}

abbrev pub begun : Walk
begun = walk_from nothing_held

took : (done : List Text) (last : Text) → used (with_index 1 (filled commands.words)) (last ∷ []) (rows_with done)
    ≡ rows_with (done ++ last ∷ [])
took [] last = refl
took (word ∷ done) last = refl

pub first_step : (word : Text) → IsPlain word → walked rules [] begun word ≡ standing [] word
unfolding walked
first_step word plain = ap (λ (met : Held × Step). after_step rules word begun met.0 met.1)
    (plain_met idle 1 word nothing_held plain)

taken : List Row → (word : Text) → Walk
taken rows word = record {
  held = record { rows = rows; pending = Some (codes "words", word ∷ []); skip = 0 };
  waiting = positional;
  position = 1;
  is_trailing = false;
  stopped = None;
}

pub next_step : (done : List Text) (last word : Text) → IsPlain word
    → walked rules [] (standing done last) word ≡ standing (done ++ last ∷ []) word
unfolding walked taken
next_step done last word plain = ap (λ (met : Held × Step). after_step rules word (standing done last) met.0 met.1)
    (plain_met positional 1 word (standing done last).held plain)
    ∙ ap (λ (rows : List Row). taken rows word) (took done last)

-- the walk over plain words from one that is pending
pub record Passes (done : List Text) (last : Text) (words tail : List Text) : Type 0 where
  pub before : List Text
  pub pending : Text
  pub all : before ++ pending ∷ [] ≡ (done ++ last ∷ []) ++ words
  pub walk : fold (walked rules []) (standing done last) (words ++ tail)
      ≡ fold (walked rules []) (standing before pending) tail

pub passes : (done : List Text) (last : Text) (words tail : List Text) → AllByRecursion IsPlain words
    → Passes done last words tail
passes done last [] tail plain = record {
  before = done;
  pending = last;
  all = sym (append-nil (done ++ last ∷ []));
  walk = refl;
}
passes done last (word ∷ words) tail (first, plain) =
    let p = passes (done ++ last ∷ []) word words tail plain in
    record {
      before = p.before;
      pending = p.pending;
      all = p.all ∙ append_assoc (done ++ last ∷ []) (word ∷ []) words;
      walk = ap (λ (w : Walk). fold (walked rules []) w (words ++ tail)) (next_step done last word first) ∙ p.walk;
    }

-- ---- options behind them

abbrev pub option_open : Text → List Row → Walk
option_open id rows = record {
  held = record { rows = rows; pending = Some (id, []); skip = 0 };
  waiting = option id;
  position = 1;
  is_trailing = false;
  stopped = None;
}

abbrev pub option_done : Text → List Row → (value : Text) → Walk
option_done id rows value = record {
  held = record { rows = rows; pending = Some (id, value ∷ []); skip = 0 };
  waiting = idle;
  position = 1;
  is_trailing = false;
  stopped = None;
}

-- from here on the walk has these plain words
pub record Stands (words : List Text) (w : Walk) : Type 0 where
  pub finish : finished rules w.held ≡ rows_with words
  pub tick : walked rules [] w (codes "--at") ≡ option_open (codes "at") (rows_with words)
  pub depth : walked rules [] w (codes "--depth") ≡ option_open (codes "depth") (rows_with words)

pub begun_stands : Stands [] begun
unfolding walked
begun_stands = record { finish = refl; tick = refl; depth = refl }

defaults : (words : List Text) → fold with_default (rows_with words) rules ≡ rows_with words
defaults [] = refl
defaults (word ∷ words) = refl

pub standing_stands : (done : List Text) (last : Text) → Stands (done ++ last ∷ []) (standing done last)
unfolding walked
standing_stands done last = record {
  finish = ap (λ (rows : List Row). fold with_default rows rules) (took done last) ∙ defaults (done ++ last ∷ []);
  tick = ap (λ (rows : List Row). option_open (codes "at") rows) (took done last);
  depth = ap (λ (rows : List Row). option_open (codes "depth") rows) (took done last);
}

pub tick_stated : (rows : List Row) (value : Text) → IsPlain value
    → walked rules [] (option_open (codes "at") rows) value ≡ option_done (codes "at") rows value
unfolding walked
tick_stated rows value plain =
    ap (λ (met : Held × Step). after_step rules value (option_open (codes "at") rows) met.0 met.1)
    (plain_met (option (codes "at")) 1 value (option_open (codes "at") rows).held plain)

pub depth_stated : (rows : List Row) (value : Text) → IsPlain value
    → walked rules [] (option_open (codes "depth") rows) value ≡ option_done (codes "depth") rows value
unfolding walked
depth_stated rows value plain =
    ap (λ (met : Held × Step). after_step rules value (option_open (codes "depth") rows) met.0 met.1)
    (plain_met (option (codes "depth")) 1 value (option_open (codes "depth") rows).held plain)

-- the depth behind the tick
pub depth_behind : (rows : List Row) (value : Text)
    → walked rules [] (option_done (codes "at") rows value) (codes "--depth")
    ≡ option_open (codes "depth") (used (filled commands.at) (value ∷ []) rows)
unfolding walked
depth_behind rows value = refl

pub walk_tick : (words : List Text) (w : Walk) (value : Text) → Stands words w → IsPlain value
    → fold (walked rules []) w (codes "--at" ∷ value ∷ []) ≡ option_done (codes "at") (rows_with words) value
walk_tick words w value stands plain =
    ap (λ (v : Walk). walked rules [] v value) stands.tick ∙ tick_stated (rows_with words) value plain

pub walk_depth : (words : List Text) (w : Walk) (value : Text) → Stands words w → IsPlain value
    → fold (walked rules []) w (codes "--depth" ∷ value ∷ []) ≡ option_done (codes "depth") (rows_with words) value
walk_depth words w value stands plain =
    ap (λ (v : Walk). walked rules [] v value) stands.depth ∙ depth_stated (rows_with words) value plain

pub walk_both : (words : List Text) (w : Walk) (value conversions : Text) → Stands words w → IsPlain value
    → IsPlain conversions
    → fold (walked rules []) w (codes "--at" ∷ value ∷ codes "--depth" ∷ conversions ∷ [])
    ≡ option_done (codes "depth") (used (filled commands.at) (value ∷ []) (rows_with words)) conversions
walk_both words w value conversions stands plain also =
    ap (λ (v : Walk). walked rules [] (walked rules [] v (codes "--depth")) conversions)
    (walk_tick words w value stands plain)
    ∙ (ap (λ (v : Walk). walked rules [] v conversions) (depth_behind (rows_with words) value)
    ∙ depth_stated (used (filled commands.at) (value ∷ []) (rows_with words)) conversions also)

-- ---- what is told

told_plain : (first : Text) (words : List Text)
    → told_of first (rows_with words) ≡ record { first = first; behind = words; at = None; depth = None }
told_plain first [] = refl
told_plain first (word ∷ words) = refl

told_tick : (first : Text) (words : List Text) (value : Text)
    → told_of first (finished rules (option_done (codes "at") (rows_with words) value).held)
    ≡ record { first = first; behind = words; at = Some value; depth = None }
told_tick first [] value = refl
told_tick first (word ∷ words) value = refl

told_depth : (first : Text) (words : List Text) (value : Text)
    → told_of first (finished rules (option_done (codes "depth") (rows_with words) value).held)
    ≡ record { first = first; behind = words; at = None; depth = Some value }
told_depth first [] value = refl
told_depth first (word ∷ words) value = refl

told_both : (first : Text) (words : List Text) (value conversions : Text)
    → told_of first (finished rules (option_done (codes "depth")
    (used (filled commands.at) (value ∷ []) (rows_with words)) conversions).held)
    ≡ record { first = first; behind = words; at = Some value; depth = Some conversions }
told_both first [] value conversions = refl
told_both first (word ∷ words) value conversions = refl

abbrev tell_from : (first : Text) → Walk → List Text → Told
tell_from first w tail = told_of first (finished rules (fold (walked rules []) w tail).held)

told_from : (first : Text) (words : List Text) (w : Walk) (at depth : Option Text) → Stands words w → IsPlainIfAny at
    → IsPlainIfAny depth
    → tell_from first w (options_words at depth) ≡ record { first = first; behind = words; at = at; depth = depth }
told_from first words w None None stands plain also =
    ap (λ (rows : List Row). told_of first rows) stands.finish ∙ told_plain first words
told_from first words w (Some value) None stands plain also =
    ap (λ (v : Walk). told_of first (finished rules v.held)) (walk_tick words w value stands plain)
    ∙ told_tick first words value
told_from first words w None (Some value) stands plain also =
    ap (λ (v : Walk). told_of first (finished rules v.held)) (walk_depth words w value stands also)
    ∙ told_depth first words value
told_from first words w (Some value) (Some conversions) stands plain also =
    ap (λ (v : Walk). told_of first (finished rules v.held)) (walk_both words w value conversions stands plain also)
    ∙ told_both first words value conversions

-- of a question's words clap tells each plain one, and what the options state
pub told_rows : (first : Text) (behind options : List Text) (at depth : Option Text) → AllByRecursion IsPlain behind
    → AreOptions options at depth
    → told_of first (rows_after rules [] (behind ++ options))
    ≡ record { first = first; behind = behind; at = at; depth = depth }
told_rows first [] options at depth plain are =
    rw are.is (told_from first [] begun at depth begun_stands are.tick are.conversions)
told_rows first (word ∷ behind) options at depth plain are =
    let p = passes [] word behind options plain.1 in
    ap (λ (w : Walk). told_of first (finished rules w.held))
    (ap (λ (w : Walk). fold (walked rules []) w (behind ++ options)) (first_step word plain.0) ∙ p.walk)
    ∙ (ap (λ (tail : List Text). tell_from first (standing p.before p.pending) tail) are.is
    ∙ (told_from first (p.before ++ p.pending ∷ []) (standing p.before p.pending) at depth
    (standing_stands p.before p.pending) are.tick are.conversions
    ∙ ap (λ (ws : List Text). record { first = first; behind = ws; at = at; depth = depth }) p.all))

-- ---- the first word

abbrev pub entered_at : (first : Text) (words : List Text) → Walk
entered_at first words = record {
  held = nothing_held;
  waiting = idle;
  position = 1;
  is_trailing = false;
  stopped = Some (first, words);
}

pub behind_first : (names : Names) (first : Text) (done words : List Text)
    → fold (walked [] names) (entered_at first done) words ≡ entered_at first (done ++ words)
unfolding walked
behind_first names first done [] = ap (λ (ws : List Text). entered_at first ws) (sym (append-nil done))
behind_first names first done (word ∷ words) =
    behind_first names first (done ++ word ∷ []) words
    ∙ ap (λ (ws : List Text). entered_at first ws) (append_assoc done (word ∷ []) words)

abbrev pub told_by : List Text → Option Told
told_by words = told (subcommand_of commands.hlsoffer words)

abbrev names : Names
names = names_of (built commands.hlsoffer)

entered_told : (first : Text) (words : List Text) → IsAsking first
    → told_by (first ∷ words) ≡ Some (told_of first (rows_after rules [] words))
unfolding walked
entered_told first words (inl is) = rw is (ap (λ (w : Walk). told (entered (built commands.hlsoffer) w.stopped))
    (behind_first names (codes "offer") [] words))
entered_told first words (inr (inl is)) = rw is (ap (λ (w : Walk). told (entered (built commands.hlsoffer) w.stopped))
    (behind_first names (codes "need") [] words))
entered_told first words (inr (inr is)) = rw is (ap (λ (w : Walk). told (entered (built commands.hlsoffer) w.stopped))
    (behind_first names (codes "spare") [] words))

pub told_shape : (words : List Text) (shape : HasShape words) → told_by words
    ≡ Some (record { first = shape.first; behind = shape.behind; at = shape.at; depth = shape.depth })
told_shape words shape =
    ap told_by shape.words_are ∙ (entered_told shape.first (shape.behind ++ shape.options) shape.asking
    ∙ ap (λ (t : Told). Some t)
    (told_rows shape.first shape.behind shape.options shape.at shape.depth shape.plain shape.are))

pub simple : is_simple commands.hlsoffer ≡ true
simple = refl

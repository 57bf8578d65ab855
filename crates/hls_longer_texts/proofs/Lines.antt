-- The lines of two texts one behind the other, and their tokens.
use Rattle.std.proofs.Common.{◌≡◌, ◌≢◌, ℕ, ◌==◌, Bool, true, false, List, [], ◌∷◌, ◌++◌, refl, sym, ap, ◌∙◌}
use Rattle.std.proofs.Common.{if◌then◌else◌}
use Rattle.std.specs.Prelude.{◌&&◌}
use Rattle.hls_text.specs.Lines.{Text, lines_of, onto_first, at_end, shown_of}
use Rattle.hls_text.specs.Tokens.{tokens_of}
use Rattle.hls_scenario.specs.Forms.{Form}
use Rattle.hls_scenario.specs.Grammar.{AreLines, onto_lines, token_lines}
use Rattle.hls_longer_texts.specs.Longer.{ends_line}

onto_some : (b : ℕ) (lines : List Text) → onto_first b lines ≢ []
onto_some b [] e = (let no : ⊥ = cc in no)
onto_some b (line ∷ lines) e = (let no : ⊥ = cc in no)

onto_more : (b : ℕ) (lines more : List Text) → lines ≢ [] → onto_first b (lines ++ more) ≡ onto_first b lines ++ more
onto_more b [] more some = absurd (some refl)
onto_more b (line ∷ lines) more some = refl

-- a text that begins with the end of a line has a line
ended_some : (bs : Text) → at_end bs ≡ true → lines_of bs ≢ []
unfolding lines_of
ended_some [] e none = (let no : ⊥ = cc in no)
ended_some (b ∷ bs) e none = (let same : [] ∷ lines_of bs ≡ [] = rw e at none in let no : ⊥ = cc in no)

and_right : (p q : Bool) → (p && q) ≡ true → q ≡ true
and_right true q e = e
and_right false q e = absurd (let no : ⊥ = cc in no)

lines_by : (p q : Bool) (b : ℕ) (rest : List Text) → (q ≡ true → rest ≢ [])
    → (if p then [] ∷ rest else (if q then rest else onto_first b rest)) ≢ []
lines_by true q b rest some e = (let no : ⊥ = cc in no)
lines_by false true b rest some e = some refl e
lines_by false false b rest some e = onto_some b rest e

some_lines : (b : ℕ) (bs : Text) → lines_of (b ∷ bs) ≢ []
unfolding lines_of
some_lines b bs =
    lines_by (b == 10) (b == 13 && at_end bs) b (lines_of bs)
    (λ e. ended_some bs (and_right (b == 13) (at_end bs) e))

more_by : (p q : Bool) (b : ℕ) (whole rest more : List Text) → whole ≡ rest ++ more → rest ≢ []
    → (if p then [] ∷ whole else (if q then whole else onto_first b whole))
    ≡ (if p then [] ∷ rest else (if q then rest else onto_first b rest)) ++ more
more_by true q b whole rest more e some = ap (λ (ls : List Text). [] ∷ ls) e
more_by false true b whole rest more e some = e
more_by false false b whole rest more e some = ap (onto_first b) e ∙ onto_more b rest more some

last_line : (p q : Bool) (b : ℕ) (more : List Text) → p ≡ true
    → (if p then [] ∷ more else (if q then more else onto_first b more)) ≡ [] ∷ more
last_line true q b more e = refl
last_line false q b more e = absurd (let no : ⊥ = cc in no)

-- a text that ends its last line, and another behind it
pub lines_behind : (text more : Text) → ends_line text ≡ true → lines_of (text ++ more) ≡ lines_of text ++ lines_of more
unfolding lines_of
lines_behind [] more e = refl
lines_behind (b ∷ []) more e =
    last_line (b == 10) (b == 13 && at_end more) b (lines_of more) e
    ∙ ap (λ (ls : List Text). ls ++ lines_of more) (sym (last_line (b == 10) (b == 13 && at_end []) b [] e))
lines_behind (b ∷ c ∷ bs) more e =
    more_by (b == 10) (b == 13 && (c == 10)) b (lines_of (c ∷ (bs ++ more))) (lines_of (c ∷ bs)) (lines_of more)
    (lines_behind (c ∷ bs) more e) (some_lines c bs)

-- ---- tokens

onto_behind : (tokens : List Text) (lines more : List (List Text))
    → onto_lines tokens (lines ++ more) ≡ onto_lines tokens lines ++ more
onto_behind [] lines more = refl
onto_behind (token ∷ tokens) lines more = refl

pub tokens_behind : (lines more : List Text) → token_lines (lines ++ more) ≡ token_lines lines ++ token_lines more
tokens_behind [] more = refl
tokens_behind (line ∷ lines) more =
    ap (onto_lines (tokens_of (shown_of line))) (tokens_behind lines more)
    ∙ onto_behind (tokens_of (shown_of line)) (token_lines lines) (token_lines more)

pub lines_join : (forms others : List (List Form)) (words more : List (List Text)) → AreLines forms words
    → AreLines others more → AreLines (forms ++ others) (words ++ more)
lines_join [] others [] more are those = those
lines_join [] others (line ∷ words) more are those = absurd are
lines_join (form ∷ forms) others [] more are those = absurd are
lines_join (form ∷ forms) others (line ∷ words) more are those =
    (are.0, lines_join forms others words more are.1 those)

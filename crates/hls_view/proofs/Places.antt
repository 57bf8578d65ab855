-- Where words stand in texts that are put together.
use Rattle.std.proofs.Common.{◌≡◌, ◌∙◌, sym, ap, ◌++◌}
use Rattle.std.proofs.lemmas.List.{append_assoc}
use Rattle.hls_text.specs.Lines.{Text}
use Rattle.hls_view.specs.Kept.{BeginsWith, HasWords}

pub begun : (output front rest : Text) → output ≡ front ++ rest → BeginsWith output front
begun output front rest is = record { rest = rest; is = is }

-- what a text begins with, it begins with where more comes
pub begins_on : (a b front : Text) → BeginsWith a front → BeginsWith (a ++ b) front
begins_on a b front it = record {
  rest = it.rest ++ b;
  is = ap (λ (t : Text). t ++ b) it.is ∙ append_assoc front it.rest b;
}

-- words that begin what comes behind stand in the whole
pub has_begun : (a b words : Text) → BeginsWith b words → HasWords (a ++ b) words
has_begun a b words it = record { before = a; behind = it.rest; is = ap (λ (t : Text). a ++ t) it.is }

pub has_behind : (a b words : Text) → HasWords b words → HasWords (a ++ b) words
has_behind a b words it = record {
  before = a ++ it.before;
  behind = it.behind;
  is = ap (λ (t : Text). a ++ t) it.is ∙ sym (append_assoc a it.before (words ++ it.behind));
}

pub has_before : (a b words : Text) → HasWords a words → HasWords (a ++ b) words
has_before a b words it = record {
  before = it.before;
  behind = it.behind ++ b;
  is = ap (λ (t : Text). t ++ b) it.is ∙ append_assoc it.before (words ++ it.behind) b
      ∙ ap (λ (t : Text). it.before ++ t) (append_assoc words it.behind b);
}

-- of two words one behind the other, the first ends a text and the second begins the next
pub begins_with_both : (word more b : Text) → BeginsWith b more → BeginsWith (word ++ b) (word ++ more)
begins_with_both word more b it = record {
  rest = it.rest;
  is = ap (λ (t : Text). word ++ t) it.is ∙ sym (append_assoc word more it.rest);
}

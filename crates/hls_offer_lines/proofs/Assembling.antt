-- The lines as a whole, from their parts.
use Rattle.std.proofs.Common.{◌≡◌, ℕ, List, ◌++◌, ap, ◌∙◌}
use Rattle.std.specs.Prelude.{Option, Result, IfOk, option_to_list}
use Rattle.std.proofs.lemmas.Result.{IfOk-weaker}
use Rattle.hls_guarantee.specs.declared.Guarantee.{Guarantee}
use Rattle.hls_guarantee.specs.declared.Guarantee.TheVariants.{All}
use Rattle.hls_offer_best.specs.declared.seat.Seat.{Seat}
use Rattle.hls_offer_best.specs.declared.windows.Form.TheVariants.{Blocks, Windows}
use Rattle.hls_offer_best.specs.Best.{IsLeastIfAny, Offers, Waits}
use Rattle.hls_offer_lines.specs.Lines.{AreOffers, AreSpans, AreTopShares, CoverAll}
use Rattle.hls_offer_lines.specs.Lines.{HasNarrowShares, IsHardOf, ListsEach}
use Rattle.hls_offer_lines.specs.Lines.{or_nothing, wait_line}

pub record Parts (seat : Seat) (list : Option (List ℕ)) (lines : List Guarantee) : Type 0 where
  pub whole : List Guarantee
  pub hard_blocks : List Guarantee
  pub hard_windows : List Guarantee
  pub shares : List Guarantee
  pub wait : Option ℕ
  pub spans : List Guarantee
  pub first : List Guarantee
  pub second : List Guarantee
  pub third : List Guarantee
  pub fourth : List Guarantee
  pub to_first : first ≡ whole ++ hard_blocks
  pub to_second : second ≡ first ++ hard_windows
  pub to_third : third ≡ second ++ shares
  pub to_fourth : fourth ≡ third ++ option_to_list (wait_line wait)
  pub to_lines : lines ≡ fourth ++ spans
  pub is_whole : ListsEach (λ g. (g ≡ All) × Offers seat g) whole
  pub are_hard_blocks : ListsEach (λ g. IsHardOf Blocks g × Offers seat g) hard_blocks
  pub are_hard_windows : ListsEach (λ g. IsHardOf Windows g × Offers seat g) hard_windows
  pub are_shares : AreTopShares seat shares
  pub cover : HasNarrowShares seat → CoverAll seat shares
  pub is_wait : IsLeastIfAny (λ ticks. Waits seat ticks) wait
  pub are_spans : AreSpans seat wait list spans

assembled : (seat : Seat) (list : Option (List ℕ)) (lines all : List Guarantee) → Parts seat list lines
    → all ≡ or_nothing lines → AreOffers seat list all
assembled seat list lines all parts is =
    let second : parts.second ≡ parts.whole ++ parts.hard_blocks ++ parts.hard_windows =
    parts.to_second ∙ ap (λ v. v ++ parts.hard_windows) parts.to_first in
    let third : parts.third ≡ parts.whole ++ parts.hard_blocks ++ parts.hard_windows ++ parts.shares =
    parts.to_third ∙ ap (λ v. v ++ parts.shares) second in
    let last = option_to_list (wait_line parts.wait) in
    let fourth : parts.fourth ≡ parts.whole ++ parts.hard_blocks ++ parts.hard_windows ++ parts.shares ++ last =
    parts.to_fourth ∙ ap (λ v. v ++ last) third in
    record {
      whole = parts.whole;
      hard_blocks = parts.hard_blocks;
      hard_windows = parts.hard_windows;
      shares = parts.shares;
      wait = parts.wait;
      spans = parts.spans;
      form = is ∙ ap or_nothing (parts.to_lines ∙ ap (λ v. v ++ parts.spans) fourth);
      is_whole = parts.is_whole;
      are_hard_blocks = parts.are_hard_blocks;
      are_hard_windows = parts.are_hard_windows;
      are_shares = parts.are_shares;
      cover = parts.cover;
      is_wait = parts.is_wait;
      are_spans = parts.are_spans;
    }

pub offers-of : (seat : Seat) (list : Option (List ℕ)) (lines : List Guarantee) {T E : Type 0} (r : Result T E)
    → (items : T → List Guarantee) → Parts seat list lines → IfOk r (λ all. items all ≡ or_nothing lines)
    → IfOk r (λ all. AreOffers seat list (items all))
offers-of seat list lines r items parts is =
    IfOk-weaker r (λ all. items all ≡ or_nothing lines) (λ all. AreOffers seat list (items all))
    (λ all form. assembled seat list lines (items all) parts form) is

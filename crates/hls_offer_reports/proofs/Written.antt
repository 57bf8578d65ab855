-- The lines that begin with `at` are those of requests that would be done.
use Rattle.std.proofs.Common.{◌≡◌, ℕ, inl, inr, Bool, true, false, List, [], ◌∷◌, ◌++◌, codes, refl, sym, ◌∙◌}
use Rattle.std.proofs.Common.{subst, arith}
use Rattle.std.specs.Prelude.{Option, Some, None, Contains}
use Rattle.hls_io.specs.declared.status.Status.{Status}
use Rattle.hls_io.specs.declared.status.Status.TheVariants.{Done}
use Rattle.hls_text.specs.Lines.{Text}
use Rattle.hls_chron.specs.Name.{IsName}
use Rattle.hls_guarantee.specs.declared.Guarantee.{Guarantee}
use Rattle.hls_guarantee.specs.Limits.{IsNarrow}
use Rattle.hls_scenario.specs.declared.scenario.Scenario.{Scenario}
use Rattle.hls_scenario.specs.Grammar.{IsCommand}
use Rattle.hls_machine.specs.Hierarchy.{Hierarchy, name_of}
use Rattle.hls_machine.specs.Steps.{is_thread}
use Rattle.hls_machine.specs.Legal.{IsReached}
use Rattle.hls_legal.specs.Moment.{Boxes, Moment, node_of}
use Rattle.hls_top.specs.Exchange.{Exchange}
use Rattle.hls_offer_text.specs.OfferText.{free_text, refused_text}
use Rattle.hls_offer_words.specs.declared.asked.Question.{Question}
use Rattle.hls_offer_words.specs.declared.asked.Question.TheVariants as questions
use Rattle.hls_offer_words.specs.declared.asked.Asked.{Asked}
use Rattle.hls_offer_asks.specs.declared.wish.Wish.{Wish}
use Rattle.hls_offer_asks.specs.declared.needs.Need.{Need}
use Rattle.hls_offer_asks.specs.declared.needs.Had.{Had}
use Rattle.hls_offer_asks.specs.declared.needs.Had.TheVariants.{At, Refused}
use Rattle.hls_offer_asks.specs.Requests.{IsDoneFor, IsWish, request_for, request_of}
use Rattle.hls_offer_asks.specs.Needs.{IsHad, IsNeed, wish_of}
use Rattle.hls_offer_words.specs.Table.{IsPlace, IsQuestion}
use Rattle.hls_offer.specs.Moments.{asked_tick, IsMoment}
use Rattle.hls_offer.specs.Told.{Told, Place, IsPlaceOf, ArePlacesOf, TellsOpen, TellsShut, TellsPlaces, TellsLeft}
use Rattle.hls_offer.specs.Told.{AreAsked, IsTold, at_text, had_text}
use Rattle.hls_offer.proofs.Formed.{had_formed}
use Rattle.hls_offer.specs.Replies.{given_depth, Tells}
use Rattle.hls_offer.specs.Ends.{Ends}
use Rattle.hls_report_text.specs.ReportText.{item_text}
use Rattle.hls_offer_reports.specs.Reports.{item_at}
use Rattle.hls_offer_reports.specs.Lines.{IsAtLine, IsDoneLine, AtLinesAreDone, AllAreDone}
use Rattle.hls_offer_reports.proofs.Found.{first_or, in_map, map_has, none_in, one_in}
use Rattle.hls_offer_reports.proofs.Names.{AreNames, legal_names}
use Rattle.hls_offer_reports.proofs.Behind.{stands_behind}
use Rattle.hls_offer_reports.proofs.Placed.{done_in_reports}

first_letter : (b c : ℕ) (more rest : Text) → b ∷ more ≡ c ∷ rest → b ≡ c
first_letter b c more rest e = cc

no_line : (line more : Text) → codes "no " ++ more ≡ line → IsAtLine line → ⊥
no_line line more e at =
    let letters = first_letter 110 97 (codes "o " ++ more) (codes "t " ++ at.rest) (e ∙ at.is) in
    omega (arith, letters)

free_line : (line more : Text) → codes "free " ++ more ≡ line → IsAtLine line → ⊥
free_line line more e at =
    let letters = first_letter 102 97 (codes "ree " ++ more) (codes "t " ++ at.rest) (e ∙ at.is) in
    omega (arith, letters)

-- ---- requests

formed_for : (version : ℕ) (known : Bool) (wish : Wish) (g : Guarantee) → IsWish wish → IsNarrow g
    → IsCommand version (request_for known wish g)
formed_for version true wish g within narrow =
    (within.name, record { spot = (within.on, within.terms); want = narrow })
formed_for version false wish g within narrow =
    (within.name, record { spot = (within.on, within.terms); want = narrow })

request_formed : (version : ℕ) (h : Hierarchy) (wish : Wish) (g : Guarantee) → IsWish wish → IsNarrow g
    → IsCommand version (request_of h wish g)
request_formed version h wish g within narrow =
    formed_for version (is_thread (node_of h wish.name)) wish g within narrow

-- each version spells it alike
spelled_for : (version tick : ℕ) (known : Bool) (wish : Wish) (g : Guarantee)
    → at_text tick (request_for known wish g) ≡ item_text version (item_at tick (request_for known wish g))
spelled_for version tick true wish g = refl
spelled_for version tick false wish g = refl

module _ (s : Scenario) (given : ℕ) (boxes : Boxes) (tick : ℕ) (m : Moment) (is : IsMoment s given boxes tick m) where
  reached : IsReached m.hierarchy
  reached = record { past = is.steps; legal = is.run.legal; leads = is.leads }

  names : AreNames m.hierarchy
  names = subst AreNames (sym is.leads) (legal_names is.steps is.run.legal)

  request_done : (wish : Wish) (g : Guarantee) (line : Text) → IsWish wish → IsNarrow g → IsDoneFor m wish g
      → at_text tick (request_of m.hierarchy wish g) ≡ line → IsDoneLine s given boxes tick line
  request_done wish g line within narrow done spelled = record {
    command = request_of m.hierarchy wish g;
    within = request_formed s.version m.hierarchy wish g within narrow;
    spelled = sym spelled ∙ spelled_for s.version tick (is_thread (node_of m.hierarchy wish.name)) wish g;
    done = done_in_reports s given boxes tick m (request_of m.hierarchy wish g) done.0 is done.1;
  }

  -- ---- what can be promised

  open_done : (wish : Wish) (periods : Option (List ℕ)) (told : Told) → IsWish wish
      → TellsOpen m tick wish periods told → AtLinesAreDone s given boxes tick told.lines
  open_done wish periods told within tells line has at =
      let one = in_map (λ (g : Guarantee). at_text tick (request_of m.hierarchy wish g)) tells.offered line
      (subst (λ (t : Told). Contains t.lines line) tells.told_is has) in
      request_done wish one.source line within (tells.are.narrow one.source one.has)
      (tells.are.done one.source one.has) one.is

  shut_done : (wish : Wish) (told : Told) → TellsShut m wish told → AtLinesAreDone s given boxes tick told.lines
  shut_done wish told tells line has at =
      let one = one_in (refused_text wish.on (Some wish.terms) tells.refusal) line
      (subst (λ (t : Told). Contains t.lines line) tells.told_is has) in
      absurd (no_line line _ one at)

  -- ---- by which terms it can be had

  place_in : (need : Need) (periods : Option (List ℕ)) (places : List Place) (place : Place)
      → ArePlacesOf m need periods places → Contains places place → IsPlaceOf m need periods place
  place_in need periods [] place are has = absurd (none_in place has)
  place_in need periods (one ∷ places) place are has =
      elim (first_or one places place has) [
        | inl same ↦ subst (λ (p : Place). IsPlaceOf m need periods p) same are.0
        | inr more ↦ place_in need periods places place are.1 more
      ]

  -- the scheduler that is asked has a name, and so has each that is loaded
  place_named : (on : Option Text) (places : List Place) (place : Place) → IsPlace on → AreAsked m.hierarchy on places
      → Contains places place → IsName place.on
  place_named (Some on) places place named asked has =
      let there = subst (λ (ns : List Text). Contains ns place.on) asked
      (map_has (λ (p : Place). p.on) places place has) in
      subst IsName (one_in on place.on there) named
  place_named None places place named asked has =
      let there = subst (λ (ns : List (Option Text)). Contains ns (Some place.on)) asked
      (map_has (λ (p : Place). Some p.on) places place has) in
      let node = in_map (λ (k : ℕ). name_of (m.hierarchy.nodes k)) m.hierarchy.schedulers (Some place.on) there in
      names node.source place.on node.is

  had_done : (need : Need) (periods : Option (List ℕ)) (on : Text) (had : Had) (line : Text) → IsNeed need → IsName on
      → IsHad m need on periods had → had_text m.hierarchy tick need on had ≡ line → IsAtLine line
      → IsDoneLine s given boxes tick line
  had_done need periods on (At its) line within named had spelled at =
      request_done (wish_of need on its) need.wanted line
      (record {
        name = within.name;
        on = named;
        terms = had_formed m reached need on periods its (At its) refl had;
      }) within.wanted had.holds spelled
  had_done need periods on (Refused its refusal) line within named had spelled at =
      absurd (no_line line _ spelled at)

  places_done : (need : Need) (on : Option Text) (periods : Option (List ℕ)) (told : Told) → IsNeed need → IsPlace on
      → TellsPlaces m tick need on periods told → AtLinesAreDone s given boxes tick told.lines
  places_done need on periods told within placed tells line has at =
      let one = in_map (λ (place : Place). had_text m.hierarchy tick need place.on place.had) tells.places line
      (subst (λ (t : Told). Contains t.lines line) tells.told_is has) in
      let place = place_in need periods tells.places one.source tells.are one.has in
      let named = place_named on tells.places one.source placed tells.asked one.has in
      had_done need periods one.source.on one.source.had line within named place.is one.is at

  -- ---- what is left

  left_done : (periods : Option (List ℕ)) (told : Told) → TellsLeft s.version m periods told
      → AtLinesAreDone s given boxes tick told.lines
  left_done periods told tells line has at =
      let one = in_map (free_text s.version) tells.frees line
      (subst (λ (t : Told). Contains t.lines line) tells.told_is has) in
      absurd (free_line line _ one.is at)

  told_done : (q : Question) (periods : Option (List ℕ)) (told : Told) → IsQuestion q
      → IsTold s.version q m tick periods told → AtLinesAreDone s given boxes tick told.lines
  told_done (questions.Offer name on its) periods told within (inl tells) =
      open_done (record { name = name; on = on; terms = its }) periods told
      (record { name = within.0; on = within.1; terms = within.2 }) tells
  told_done (questions.Offer name on its) periods told within (inr tells) =
      shut_done (record { name = name; on = on; terms = its }) told tells
  told_done (questions.Need name wanted on) periods told within tells =
      places_done (record { name = name; wanted = wanted }) on periods told
      (record { name = within.0; wanted = within.1 }) within.2 tells
  told_done questions.Spare periods told within tells = left_done periods told tells

pub tells_done : (a : Asked) (s : Scenario) (boxes : Boxes) (tick : ℕ) (status : Status) (output : Text)
    (tells : Tells a s boxes tick status output) → IsQuestion a.question
    → AtLinesAreDone s (given_depth a.depth) boxes tick tells.told.lines
tells_done a s boxes tick status output tells within =
    told_done s (given_depth a.depth) boxes tick tells.m tells.moment a.question a.periods tells.told within tells.is

pub all_done : (x : Exchange) → Ends x Done → AllAreDone x
all_done x ends =
    let due = ends.due in
    let asked = due.asked in
    let replies = due.reply in
    let s = replies.scenario in
    let tick = asked_tick asked.at s.items in
    let done = tells_done asked s x.boxes tick Done ends.output replies.tells due.words.question in
    record {
      asked = asked;
      words = due.words;
      bytes = due.bytes;
      whole = due.whole;
      output = ends.output;
      written = ends.written;
      replies = replies;
      done = done;
      behind = λ may line has at.
          stands_behind s (given_depth asked.depth) x.boxes tick due.bytes replies.read replies.good may line
          (done line has at);
    }

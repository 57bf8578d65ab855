use Rattle.std.proofs.Common.{map, string_bytes}
use Rattle.hls_offer_words.proofs.Askings.{offer_stated, offer_unstated}
use Rattle.hls_offer_words.proofs.questions.offer_in.Goals as goal

pub returns-in-Some-2 : goal.returns-in-Some-2
returns-in-Some-2 c =
    offer_stated (map string_bytes c.args.words.now) c.in-Some.thread.name (map string_bytes c.in-Some.thread.rest.now)
    (map string_bytes c.in-Some-words_behind.seat.now) c.in-Some-name_in.sched.name
    (map string_bytes c.in-Some-name_in.sched.rest.now) c.in-Some-2.terms (map string_bytes c.in-Some-2.rest.now)
    c.in-Some.ensures.found c.in-Some-words_behind.ensures.found c.in-Some-name_in.ensures.found
    c.in-Some.ensures.named c.in-Some-name_in.ensures.named (rw c.in-Some-2.is at c.in_ok-terms.ensures)

pub returns-in-None : goal.returns-in-None
returns-in-None c =
    offer_unstated (map string_bytes c.args.words.now) c.in-Some.thread.name
    (map string_bytes c.in-Some.thread.rest.now) (map string_bytes c.in-Some-words_behind.seat.now)
    c.in-Some-name_in.sched.name (map string_bytes c.in-Some-name_in.sched.rest.now) c.in-Some.ensures.found
    c.in-Some-words_behind.ensures.found c.in-Some-name_in.ensures.found (rw c.in-None.is at c.in_ok-terms.ensures)

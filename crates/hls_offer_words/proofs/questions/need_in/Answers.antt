use Rattle.std.proofs.Common.{map, string_bytes}
use Rattle.hls_offer_words.proofs.Askings.{need_unstated, need_unplaced, need_stated}
use Rattle.hls_offer_words.proofs.questions.need_in.Goals as goal

pub returns-in_default-2 : goal.returns-in_default-2
returns-in_default-2 c =
    need_unstated (map string_bytes c.args.words.now) c.in-Some.thread.name (map string_bytes c.in-Some.thread.rest.now)
    (map string_bytes c.in-Some-words_behind.spelled.now) c.in-Some.ensures.found c.in-Some-words_behind.ensures.found
    (rw c.in_default-2.is at c.in_ok-wanted.ensures)

pub returns-in-Some-place_in : goal.returns-in-Some-place_in
returns-in-Some-place_in c =
    need_stated (map string_bytes c.args.words.now) c.in-Some.thread.name (map string_bytes c.in-Some.thread.rest.now)
    (map string_bytes c.in-Some-words_behind.spelled.now) c.in-Some-2.wanted (map string_bytes c.in-Some-2.last.now)
    c.in-Some-place_in.place.on (map string_bytes c.in-Some-place_in.place.rest.now) c.in-Some.ensures.found
    c.in-Some-words_behind.ensures.found c.in-Some.ensures.named (rw c.in-Some-2.is at c.in_ok-wanted.ensures)
    c.in-Some-place_in.ensures

pub returns-in-None : goal.returns-in-None
returns-in-None c =
    need_unplaced (map string_bytes c.args.words.now) c.in-Some.thread.name (map string_bytes c.in-Some.thread.rest.now)
    (map string_bytes c.in-Some-words_behind.spelled.now) c.in-Some-2.wanted (map string_bytes c.in-Some-2.last.now)
    c.in-Some.ensures.found c.in-Some-words_behind.ensures.found (rw c.in-Some-2.is at c.in_ok-wanted.ensures)
    c.in-None.ensures

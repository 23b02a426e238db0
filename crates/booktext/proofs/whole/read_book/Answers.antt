use Rattle.format.specs.Reading.{book}
use Rattle.format.specs.Said.{contents_of}
use Rattle.format.proofs.Answered.{book_says, book_finds}
use Rattle.booktext.proofs.Readers.{told_whole}
use Rattle.booktext.proofs.whole.read_book.Goals as goal

pub returns : goal.returns
returns c =
    let t = c.args.text.now in
    let e = told_whole contents_of book c.whole.ensures (λ p s q h. rw (← h.shows, ← h.leaves) h.met) in
    record { reads = e; says = book_says t c.whole.result e; finds = book_finds t c.whole.result e }

use Rattle.format.specs.Reading.{errand}
use Rattle.format.specs.Said.{errand_contents_of}
use Rattle.format.proofs.Answered.{errand_says, errand_finds}
use Rattle.booktext.proofs.Readers.{told_whole}
use Rattle.booktext.proofs.whole.read_errand.Goals as goal

pub returns : goal.returns
returns c =
    let t = c.args.text.now in
    let e = told_whole errand_contents_of errand c.whole.ensures (λ p s q h. rw (← h.shows, ← h.leaves) h.met) in
    record { reads = e; says = errand_says t c.whole.result e; finds = errand_finds t c.whole.result e }

-- Calls played one after another: one call more, and the whole run.
use Rattle.std.proofs.Common.{◌≡◌, ℕ, ◌+◌, ◌<◌, List, map, length, get_or, take, sym, ap, ◌∙◌, subst}
use Rattle.std.proofs.lemmas.List.{take_more}
use Rattle.book.specs.declared.book.Book.{Book}
use Rattle.rules.specs.Rules.{Setting}
use Rattle.tasks.specs.Asks.{rules_of}
use Rattle.tasks.proofs.Bridge.{book_within}
use Rattle.runs.specs.declared.Answer.{Answer}
use Rattle.runs.specs.declared.Call.{Call}
use Rattle.runs.specs.Law.{Law}
use Rattle.runs.specs.Model.{Model, new, after, seen, last}
use Rattle.runs.proofs.Law.{runs_keep_the_law}
use Rattle.runs.proofs.More.{last_more}
use Rattle.sequencer.specs.Playing.{answer_of, WholeRun}

-- the calls before place i and the one there leave what they leave together
pub last_next : (m : Model) (calls : List Call) (i : ℕ) (d : Call) → i < length calls →
    after (last m (take i calls)) (get_or calls i d) ≡ last m (take (i + 1) calls)
last_next m calls i d inside = rw (take_more calls i d inside, last_more)

-- a run on a new sequencer keeps the law
pub whole_run : (b : Book) (s : Setting) (calls : List Call) (answers : List Answer) (m end : Model) (e : Setting) → m ≡ new (rules_of b) s →
    answers ≡ map answer_of (seen m calls) → end ≡ last m calls → e ≡ end.setting → WholeRun (rules_of b) s calls answers e
whole_run b s calls answers m end e begun answered_so left ended =
    let kept = runs_keep_the_law (rules_of b) (book_within b) s calls in
    let close : (last (new (rules_of b) s) calls).setting ≡ e =
    sym (ended ∙ ap (λ (x : Model). x.setting) (left ∙ ap (λ (x : Model). last x calls) begun)) in
    record {
      called = kept.of_the_calls;
      answered = sym (answered_so ∙ ap (λ (x : Model). map answer_of (seen x calls)) begun);
      ended = close;
      law = subst (Law (rules_of b) s (seen (new (rules_of b) s) calls)) close kept.law;
    }

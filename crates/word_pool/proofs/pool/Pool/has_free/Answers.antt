use Rattle.std.proofs.Common.{ℕ, ◌≢◌, ◌<◌, IsTrue, nat_eq, inl, inr, vec_len, arith, sym, ap, subst, ◌∙◌}
use Rattle.std.proofs.lemmas.Bool.{cases_eq, ne_eqb, false≢true}
use Rattle.word_pool.specs.{Layout.entry, Layout.noted, Pool.spare}
use Rattle.word_pool.proofs.Laid.{head_some, head_none}
use Rattle.word_pool.proofs.pool.Pool.has_free.Goals as goal

-- the test, by cases
some_test : (a : ℕ) → IsTrue (mathlib.Core.Bool.not (nat_eq a 0)) → a ≢ 0
some_test a t e = false≢true (sym (ap (λ n. mathlib.Core.Bool.not (nat_eq n 0)) e) ∙ t)

test_some : (a : ℕ) → a ≢ 0 → IsTrue (mathlib.Core.Bool.not (nat_eq a 0))
test_some a n = ap mathlib.Core.Bool.not (ne_eqb a 0 n)

pub returns : goal.returns
unfolding spare
returns g c =
    let self = c.args.self.now in
    let i = c.list_of.result in (
      λ t. subst (λ k. 0 < entry self.spare.numbers k) c.list_of.ensures.list
          (head_some (entry self.words.items) (vec_len self.words) (entry self.free) (entry self.spare.numbers) (noted self.used.numbers) self.laid i c.list_of.ensures.few (some_test (entry self.free i) t)),
      λ p. elim (cases_eq (entry self.free i) 0) [
        | inl e ↦
            let none = head_none (entry self.words.items) (vec_len self.words) (entry self.free) (entry self.spare.numbers) (noted self.used.numbers) self.laid i c.list_of.ensures.few e in
            let many : 0 < entry self.spare.numbers i = subst (λ k. 0 < entry self.spare.numbers k) (sym c.list_of.ensures.list) p in
            absurd (omega (arith, none, many))
        | inr n ↦ test_some (entry self.free i) n
      ],
    )

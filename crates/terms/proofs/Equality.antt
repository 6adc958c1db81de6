-- Whether two terms are the same can be decided, so an equation between terms has one proof at most.
use Rattle.std.proofs.Common.{◌≡◌, ℕ, ap, ap₂, arith}
use mathlib.Core.HLevel.{Discrete, hedberg}
use native.Mathlib.Decide.{ℕ_discrete}
use Rattle.terms.specs.Terms.{Term, name, env, var, pair, seal}

atom : (f : ℕ → Term) (m n : ℕ) → (f m ≡ f n → m ≡ n) → Dec (m ≡ n) → Dec (f m ≡ f n)
atom f m n out (yes e) = yes (ap f e)
atom f m n out (no d) = no (λ e. d (out e))

both : (f : Term → Term → Term) (a b c d : Term) → (f a b ≡ f c d → (a ≡ c) × (b ≡ d)) → Dec (a ≡ c) → Dec (b ≡ d) → Dec (f a b ≡ f c d)
both f a b c d out (yes p) (yes q) = yes (ap₂ f p q)
both f a b c d out (yes p) (no q) = no (λ e. q (out e).1)
both f a b c d out (no p) r = no (λ e. p (out e).0)

pub term_discrete : Discrete Term
term_discrete (name m) (name n) = atom name m n (λ e. cc) (ℕ_discrete m n)
term_discrete (name m) (env n) = no (λ e. grind arith)
term_discrete (name m) (var n) = no (λ e. grind arith)
term_discrete (name m) (pair c d) = no (λ e. grind arith)
term_discrete (name m) (seal c d) = no (λ e. grind arith)
term_discrete (env m) (name n) = no (λ e. grind arith)
term_discrete (env m) (env n) = atom env m n (λ e. cc) (ℕ_discrete m n)
term_discrete (env m) (var n) = no (λ e. grind arith)
term_discrete (env m) (pair c d) = no (λ e. grind arith)
term_discrete (env m) (seal c d) = no (λ e. grind arith)
term_discrete (var m) (name n) = no (λ e. grind arith)
term_discrete (var m) (env n) = no (λ e. grind arith)
term_discrete (var m) (var n) = atom var m n (λ e. cc) (ℕ_discrete m n)
term_discrete (var m) (pair c d) = no (λ e. grind arith)
term_discrete (var m) (seal c d) = no (λ e. grind arith)
term_discrete (pair a b) (name n) = no (λ e. grind arith)
term_discrete (pair a b) (env n) = no (λ e. grind arith)
term_discrete (pair a b) (var n) = no (λ e. grind arith)
term_discrete (pair a b) (pair c d) = both pair a b c d (λ e. (cc, cc)) (term_discrete a c) (term_discrete b d)
term_discrete (pair a b) (seal c d) = no (λ e. grind arith)
term_discrete (seal a b) (name n) = no (λ e. grind arith)
term_discrete (seal a b) (env n) = no (λ e. grind arith)
term_discrete (seal a b) (var n) = no (λ e. grind arith)
term_discrete (seal a b) (pair c d) = no (λ e. grind arith)
term_discrete (seal a b) (seal c d) = both seal a b c d (λ e. (cc, cc)) (term_discrete a c) (term_discrete b d)

pub term_set : IsSet Term
term_set = hedberg term_discrete

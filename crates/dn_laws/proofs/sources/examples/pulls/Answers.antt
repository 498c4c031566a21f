use Rattle.std.proofs.Common.{codes, inr, refl, arith}
use Rattle.dn_instance.specs.SourceReads.{pulled, unpulled}
use Rattle.dn_instance.proofs.FirstFaults.{clean_is}
use Rattle.dn_laws.proofs.sources.ExampleLaws.{few_left, some_fault}
use Rattle.dn_laws.proofs.sources.examples.pulls.Goals as goal

pub returns : goal.returns
returns c = record {
  to_fault = record {
    before = codes "\n\n";
    pulls = pulled (codes "z\n\n") (codes "\n\n") (codes "z") unpulled (122, refl) refl (omega arith);
    clean = record {
      given = codes "z";
      rest = codes "\n\n";
      whole = refl;
      rest_is = refl;
      clean = clean_is _ refl;
    };
    last = inr (10, refl);
  };
  no_more = λ p.
      let seen = p.clean in
      some_fault seen.given seen.rest seen.whole (few_left p.before seen.rest seen.rest_is p.last) seen.clean;
}

use Rattle.capi.proofs.NameLemmas.{is_name, is_of_none}
use Rattle.capi.proofs.names.name_of.Goals as goal

pub returns-clause-named : goal.returns-clause-named
returns-clause-named c = is_name (λ name. name.now) c.name_among.result c.args.number c.refusal_table.result
    (record {
      models = c.refusal_table.ensures.models;
      symbols = c.refusal_table.ensures.symbols;
      lowerings = c.refusal_table.ensures.lowerings;
      conversions = c.refusal_table.ensures.conversions;
      runs = c.refusal_table.ensures.runs;
      judges = c.refusal_table.ensures.judges;
      witnesses = c.refusal_table.ensures.witnesses;
      gates = c.refusal_table.ensures.gates;
      circuits = c.refusal_table.ensures.circuits;
      lists = c.refusal_table.ensures.lists;
      liftings = c.refusal_table.ensures.liftings;
      engines = c.refusal_table.ensures.engines;
      counterexamples = c.refusal_table.ensures.counterexamples;
      dumps = c.refusal_table.ensures.dumps;
      texts = c.refusal_table.ensures.texts;
      proofs = c.refusal_table.ensures.proofs;
      clauses = c.refusal_table.ensures.clauses;
      formulas = c.refusal_table.ensures.formulas;
      claims = c.refusal_table.ensures.claims;
      tidying = c.refusal_table.ensures.tidying;
      tests = c.refusal_table.ensures.tests;
      certificates = c.refusal_table.ensures.certificates;
    })
    c.name_among.ensures

pub returns-clause-unnamed : goal.returns-clause-unnamed
returns-clause-unnamed c = is_of_none (λ name. name.now) c.name_among.result c.args.number c.refusal_table.result
    (record {
      models = c.refusal_table.ensures.models;
      symbols = c.refusal_table.ensures.symbols;
      lowerings = c.refusal_table.ensures.lowerings;
      conversions = c.refusal_table.ensures.conversions;
      runs = c.refusal_table.ensures.runs;
      judges = c.refusal_table.ensures.judges;
      witnesses = c.refusal_table.ensures.witnesses;
      gates = c.refusal_table.ensures.gates;
      circuits = c.refusal_table.ensures.circuits;
      lists = c.refusal_table.ensures.lists;
      liftings = c.refusal_table.ensures.liftings;
      engines = c.refusal_table.ensures.engines;
      counterexamples = c.refusal_table.ensures.counterexamples;
      dumps = c.refusal_table.ensures.dumps;
      texts = c.refusal_table.ensures.texts;
      proofs = c.refusal_table.ensures.proofs;
      clauses = c.refusal_table.ensures.clauses;
      formulas = c.refusal_table.ensures.formulas;
      claims = c.refusal_table.ensures.claims;
      tidying = c.refusal_table.ensures.tidying;
      tests = c.refusal_table.ensures.tests;
      certificates = c.refusal_table.ensures.certificates;
    })
    c.name_among.ensures

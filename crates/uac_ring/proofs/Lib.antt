mod RingsLemmas

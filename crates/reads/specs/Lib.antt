pub mod CountingPartLemmas

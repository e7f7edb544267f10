-- What the contracts cite.
--     Filing   terms filed by digests, and the index that holds them
pub mod Filing

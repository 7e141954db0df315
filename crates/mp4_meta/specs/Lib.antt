pub mod Ilst
pub mod IlstLaws
pub mod Meta
pub mod MetaLaws
pub mod Metadata
pub mod MetadataKinds
pub mod Udta
pub mod UdtaLaws

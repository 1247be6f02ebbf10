-- Parts of an array; the children of a node; lists that stand one after the other and are the
-- graph's order; and the certificate's loops.
pub mod SliceLaws
pub mod CertificateChildren
pub mod SortsLaws
mod CertificateParts
mod CopyParts
mod CertificateLaws
